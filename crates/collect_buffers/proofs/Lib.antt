-- The laws of steps, and of doing steps in turn; other crates cite them too.
pub mod Laws
pub mod Compose
pub mod RowSteps
