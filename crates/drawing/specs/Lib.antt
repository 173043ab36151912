-- The definitions, a file for each notion.
pub mod Entries
pub mod Refusals
pub mod Conditions
pub mod Checks
pub mod Orders
pub mod Gaps
pub mod Held
pub mod Outputs
-- what only contracts of inner functions and proofs cite
pub mod Inner
