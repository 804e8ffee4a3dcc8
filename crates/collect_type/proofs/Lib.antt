-- The laws that the proofs of TYPE cite, from one field to the statement.
pub mod Laws
pub mod Alike
pub mod Walk
pub mod Marks
pub mod Checking
pub mod Entering
pub mod Whole
pub mod Turns
