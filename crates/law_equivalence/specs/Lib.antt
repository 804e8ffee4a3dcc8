-- `Step`, `Chain` and `Analysis` are the terms of demand 3 and `Demand3` is its statement; the others are laws.
pub mod Chain
pub mod Step
pub mod Analysis
pub mod AnalysisLaws
pub mod Rooms
pub mod CollectRooms
pub mod Demand3
