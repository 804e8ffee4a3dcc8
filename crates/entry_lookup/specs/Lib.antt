-- `Leaves` and `Entries` are the entries' definitions; the examples are vouched for.
pub mod Leaves
pub mod Entries
pub mod Examples
