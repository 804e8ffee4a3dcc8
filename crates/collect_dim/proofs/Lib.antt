-- The laws that the proofs of DIM and REDIM cite, from a declarator's words to the statement.
pub mod Reading
pub mod Asking
pub mod Doing
pub mod Statements
