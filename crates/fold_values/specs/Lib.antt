-- `Value` and `Fold` say what folding two values gives; `ValueLaws` is vouched for.
pub mod Value
pub mod Fold
pub mod ValueLaws
