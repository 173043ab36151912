-- The words of the exported calls.
pub mod Words
-- what only contracts of inner functions and proofs cite
pub mod Inner
