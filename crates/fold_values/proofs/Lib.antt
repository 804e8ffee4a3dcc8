-- A definition in a case that the code meets.
pub mod Cases
-- What folding keeps; other crates cite it too.
pub mod FoldLaws
