-- What the code of line numbers, labels, OPTION BASE and CONST promises inside, with laws and examples; what is right is said in crate `collect_definition`.
pub mod Labels
pub mod Arrays
pub mod Examples
