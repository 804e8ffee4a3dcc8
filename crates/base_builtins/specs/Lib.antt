-- `Builtins` has the functions and finds one by its name, `Answers` says how the code's answer says it; `Examples` are worked examples.
pub mod Builtins
pub mod Answers
pub mod Examples
