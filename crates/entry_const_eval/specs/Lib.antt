-- `Outcome` and `Evaluate` are the entry's definition; the examples are vouched for.
pub mod Outcome
pub mod Evaluate
pub mod Examples
