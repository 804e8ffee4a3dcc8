-- What the code of SHARED and STATIC promises inside, with laws and examples; what is right is said in crate `collect_definition`.
pub mod Items
pub mod Examples
