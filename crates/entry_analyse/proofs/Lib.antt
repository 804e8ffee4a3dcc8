-- What a stopped run leaves, and the steps of the entry.
pub mod Stops
pub mod Laws
