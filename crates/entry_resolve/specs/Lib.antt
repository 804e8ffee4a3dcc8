-- `Entries` is the entries' definition; `Inner` is what the code behind the first checks promises.
pub mod Entries
pub mod Inner
