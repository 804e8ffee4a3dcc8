-- `View` and `Uses` say what a statement shows to collecting, `Strip` what it can't tell apart; `Build` is for examples, and the laws are vouched for.
pub mod View
pub mod Uses
pub mod Strip
pub mod Build
pub mod KindLaws
pub mod Over
