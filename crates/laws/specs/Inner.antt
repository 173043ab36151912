-- What only contracts of inner functions and proofs cite: no promise rests on it.
pub mod Lists
pub mod Sort
pub mod Different
pub mod Allowance
