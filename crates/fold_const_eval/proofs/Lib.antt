-- The laws that the proof of `const_eval` cites: literals, CONST rows, nodes.
pub mod Literals
pub mod Rows
pub mod Laws
