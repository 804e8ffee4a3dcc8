-- The table of builtin functions and the names in it.
mod Names
