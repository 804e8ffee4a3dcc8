-- `Numbers` says what narrowing and rounding are, by IEEE 754; the laws that other crates cite are vouched for.
pub mod Numbers
pub mod NumbersLaws
pub mod SignedLaws
