-- What only contracts of inner functions and proofs cite: no promise rests on it.
pub mod ActiveTree
pub mod ActiveNets
pub mod Prepared
pub mod Numbered
pub mod Sweeping
