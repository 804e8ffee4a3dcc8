-- The laws that the proof of the entry cites.
pub mod Entry
