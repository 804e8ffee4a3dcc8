-- How long a listing can be: the lines of a diagnostic (`Lines`), and then all of it (`Longest`). No definition to believe but the theorem's words.
pub mod Lines
pub mod Longest
