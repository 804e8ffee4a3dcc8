-- `Page` says what a listing's lines are; `Chunks` cuts a buffer into rows.
pub mod Page
pub mod Chunks
