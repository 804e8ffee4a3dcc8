-- What the shape of an expression's head promises.
pub mod Shape
