-- `State` says what collecting does to rows and diagnostics, `Held` what two lent buffers hold of it.
pub mod State
pub mod Held
pub mod Refused
