-- What only contracts of inner functions and proofs cite: no promise rests on it.
pub mod Entries
pub mod Lengths
pub mod LeastFloats
