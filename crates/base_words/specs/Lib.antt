-- The ground of all definitions: words, sizes, what a call tells, the numbers of refusals; and `Each` and `Laws`, which crates share.
pub mod Word
pub mod Sizes
pub mod Told
pub mod Refusals
pub mod Each
pub mod Laws
