-- The laws that the proofs cite: words moved within a buffer.
pub mod Moves
