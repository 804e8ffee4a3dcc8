-- What each statement asks and does, by its kind, and the walk.
pub mod Heads
pub mod Match
pub mod Passing
pub mod Walk
