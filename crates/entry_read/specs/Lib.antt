-- The definitions of the entries: sizes, one node at a place, a whole program.
pub mod Sized
pub mod Begun
pub mod Reading
pub mod Answered
pub mod Program
pub mod Whole
