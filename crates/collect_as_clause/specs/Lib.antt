-- What readers of parts promise inside, and the laws of reading rows in turn that the crates of single statements cite.
pub mod Parts
pub mod Over
pub mod Names
pub mod Turns
