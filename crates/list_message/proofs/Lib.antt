-- The templates as one table, and messages worked out.
pub mod Laws
pub mod Examples
