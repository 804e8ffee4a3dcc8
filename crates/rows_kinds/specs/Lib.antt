-- The sixteen kinds of rows, and each of them once as words.
pub mod Kinds
pub mod Entered
pub mod Examples
