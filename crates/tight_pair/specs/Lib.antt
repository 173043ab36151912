-- The definitions, one file for each notion.
pub mod Conditions
pub mod TightPair
-- what only contracts of inner functions and proofs cite
pub mod Inner
