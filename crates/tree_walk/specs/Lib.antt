-- `Plans` is what a field's plan promises; `Pieces` are the parts of a tree that a walk goes through, `Items` what a scan has still to come.
pub mod Pieces
pub mod Plans
pub mod Items
