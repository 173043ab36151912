-- What only contracts of inner functions and proofs cite: no promise rests on it.
pub mod Searches
pub mod Summaries
pub mod States
