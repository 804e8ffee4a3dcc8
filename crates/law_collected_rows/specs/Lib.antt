-- That the rows of `collect` are such as a lent table may have, and what its diagnostics name: no definition to believe but the theorem's words.
pub mod Good
pub mod Uses
pub mod Views
pub mod Lawful
