-- The two questions by the lookups' answers, the arrays of a name, and worked examples of the definitions.
pub mod Asked
pub mod Arrays
pub mod Examples
