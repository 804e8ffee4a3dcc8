-- `Lookup` says what a lookup answers, `Answers` how the code's answers say it; the others are laws and examples.
pub mod Lookup
pub mod Answers
pub mod LookupLaws
pub mod Examples
