-- The laws that the proofs of narrowing and rounding cite, from an f64's bits up.
pub mod Order
pub mod Bits
pub mod Value
pub mod Long
pub mod Single
