-- What only contracts of inner functions and proofs cite: no promise rests on it.
pub mod Table
pub mod Output
pub mod Rest
