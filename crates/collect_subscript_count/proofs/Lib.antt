-- The laws of the notes and of their table, the uses in expressions, targets and statements as they are noted, and the walk over statements and bodies.
pub mod Marks
pub mod Table
pub mod Expressions
pub mod Lists
pub mod Targets
pub mod ByKind
pub mod Statements
pub mod Walk
pub mod Bodies
