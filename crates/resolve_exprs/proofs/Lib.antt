-- The laws of resolving an expression: nodes, what is written, pairs, lists, calls.
pub mod Nodes
pub mod Writing
pub mod Pairs
pub mod Lists
pub mod Calls
