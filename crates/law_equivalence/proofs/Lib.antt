-- The theorem of demand 3, `Demand3`, and the laws that it rests on.
pub mod StepLaws
pub mod AcceptedLaws
pub mod Demand3Laws
pub mod Demand3
-- Examples by computing, document 01's worked one among them.
pub mod Examples
pub mod Worked
