-- The laws that the proofs cite, and worked examples of the definitions.
pub mod Laws
pub mod Examples
