-- `ConstEval` says what folding gives. `Evaluates` is what the code inside promises; the rest are laws that other crates cite.
pub mod ConstEval
pub mod Evaluates
pub mod EvalLaws
pub mod RowLaws
