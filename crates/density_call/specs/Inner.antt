-- What only contracts of inner functions and proofs cite: no promise rests on it.
pub mod Tables
pub mod Ranges
pub mod Meeting
pub mod Sweeping
pub mod Measuring
