-- `Analyse` is the entry's contract, `TwoRuns` demand 3 of what two calls leave; `ReadOff` and `Run` stand between.
pub mod Analyse
pub mod ReadOff
pub mod Run
pub mod TwoRuns
