-- The definitions, a file for each notion.
pub mod Figures
pub mod Lines
pub mod Searches
pub mod Walk
pub mod TwoNets
pub mod Conditions
pub mod Answer
-- what only contracts of inner functions and proofs cite
pub mod Inner
