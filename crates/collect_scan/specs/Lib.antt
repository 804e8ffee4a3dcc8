-- What the walk of collecting promises, and what it begins with.
pub mod Walk
pub mod Start
