-- What only contracts of inner functions and proofs cite: no promise rests on it.
pub mod LeafOrder
pub mod Tables
pub mod Stored
pub mod Marks
pub mod Nested
pub mod Walking
