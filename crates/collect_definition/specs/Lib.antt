-- `Diagnostics`, `Seen` and `Collect` say what collecting is. `Code` is what the crates that do it promise each other; the rest are laws and examples.
pub mod Diagnostics
pub mod Seen
pub mod Collect
pub mod Blind
pub mod Examples
pub mod Code
pub mod Passed
pub mod PassedLaws
pub mod SeenLaws
