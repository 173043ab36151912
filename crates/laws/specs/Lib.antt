-- The definitions, a file for each notion.
pub mod Lists
pub mod Perm
pub mod Sort
pub mod Rows
pub mod Different
pub mod Least
pub mod Charged
-- what only contracts of inner functions and proofs cite
pub mod Inner
