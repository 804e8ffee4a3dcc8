-- The entry's definition: what it tells and what it leaves.
pub mod Entry
