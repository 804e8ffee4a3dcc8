-- The laws that the proofs of SUB and FUNCTION cite: the loop, what is read, what is done, when a body has no use of a name, and the notes of first uses.
pub mod Walk
pub mod Reading
pub mod Does
pub mod Quiet
pub mod Noted
