-- `Rows` and `Answers` say what a table in a buffer is and what is done to it; the laws that other crates cite are vouched for.
pub mod Rows
pub mod Answers
pub mod Laws
pub mod Each
pub mod Images
pub mod Buffers
