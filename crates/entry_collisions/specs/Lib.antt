-- `Entry` is the entry's definition. `Collisions` is what the code inside promises; `Laws` and `Examples` are vouched for.
pub mod Collisions
pub mod Laws
pub mod Entry
pub mod Examples
