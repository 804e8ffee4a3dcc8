-- The edges as one table, and the notation that its rows are written in.
pub mod Written
pub mod Edges
