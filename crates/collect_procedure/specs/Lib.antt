-- What the code of SUB and FUNCTION promises inside; what is right is said in crate `collect_definition`.
pub mod Post
