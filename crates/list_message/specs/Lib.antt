-- `Message` has the templates and says what they stand for; `Table` and `Pieces` lay them out for the code.
pub mod Message
pub mod Table
pub mod Pieces
