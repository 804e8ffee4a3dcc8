-- `Subscripts` says what is counted; `Notes` is what the walk notes, `Code` what it promises, the others are laws and examples.
pub mod Subscripts
pub mod Blind
pub mod Examples
pub mod Over
pub mod Notes
pub mod Code
