-- `Expr` says what a right expression is, `Reader` how it is read; `Got` and `Answer` are what reading tells.
pub mod Expr
pub mod Got
pub mod Reader
pub mod Stands
pub mod Answer
