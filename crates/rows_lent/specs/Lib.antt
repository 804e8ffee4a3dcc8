-- `Rules` and `Lent` say what a lent table is; that the test is exact, the laws of building rows, and the examples are vouched for.
pub mod Rules
pub mod Lent
pub mod RuleLaws
pub mod LentLaws
pub mod Valid
pub mod Examples
