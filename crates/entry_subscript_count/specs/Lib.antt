-- `Count` is the entry's definition; the examples are vouched for.
pub mod Count
pub mod Examples
