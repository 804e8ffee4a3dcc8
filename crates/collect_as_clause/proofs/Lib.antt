-- The laws that the proofs of the readers of parts cite: types and suffixes.
pub mod Types
pub mod Suffixes
