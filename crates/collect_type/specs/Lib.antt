-- What the code of TYPE promises inside; what is right is said in crate `collect_definition`.
pub mod Types
