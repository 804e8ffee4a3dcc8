-- What the code of DIM and REDIM promises inside; what is right is said in crate `collect_definition`.
pub mod Declarators
