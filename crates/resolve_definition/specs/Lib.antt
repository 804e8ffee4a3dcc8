-- `Tables`, `Resolve` and `FromRows` say what resolving is; `Flags` and `Keeps` are vouched for; `Scopes` is for a contract inside.
pub mod Tables
pub mod Resolve
pub mod FromRows
pub mod Flags
pub mod Keeps
pub mod Scopes
