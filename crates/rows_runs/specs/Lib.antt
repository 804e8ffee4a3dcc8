-- `Runs` says what a buffer keeps while rows are entered; the laws that other crates cite are vouched for.
pub mod Runs
pub mod Union
pub mod Ordinals
pub mod Places
pub mod Cases
pub mod Parts
pub mod Laws
pub mod Entering
