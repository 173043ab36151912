-- What only contracts of inner functions and proofs cite: no promise rests on it.
pub mod Rows
pub mod Placed
pub mod Tables
