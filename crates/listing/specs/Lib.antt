-- `Listing` says what the C entry writes; `Shown` is the same read off an answer and its buffers.
pub mod Listing
pub mod Shown
