-- The laws that the proofs cite: the last of the rows to come put in its place.
mod Steps
