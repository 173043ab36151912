-- The definitions, a file for each notion.
pub mod Boxes
-- what only contracts of inner functions and proofs cite
pub mod Inner
