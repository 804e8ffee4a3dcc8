-- `Merge` says what tables are that share no key; the laws that other crates cite are vouched for.
pub mod Merge
pub mod Laws
