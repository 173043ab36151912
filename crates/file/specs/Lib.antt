-- The definitions: what the bytes of a file say.
pub mod Reading
pub mod Columns
-- what only contracts of inner functions and proofs cite
pub mod Inner
