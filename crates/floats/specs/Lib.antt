-- The definitions, a file for each notion.
pub mod TotalOrder
pub mod Values
pub mod Grid
-- what only contracts of inner functions and proofs cite
pub mod Inner
