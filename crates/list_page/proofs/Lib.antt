-- The laws of lines and pages that the proofs cite, and pages worked out.
pub mod Laws
pub mod Examples
