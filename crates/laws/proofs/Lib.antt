-- The laws, a file for each notion of specs/, and parts of slices.
pub mod Tests
pub mod ListLaws
pub mod Places
pub mod Perms
pub mod Folds
pub mod Orders
pub mod RowLaws
pub mod Sorting
pub mod SortedLists
pub mod Leasts
pub mod Differents
pub mod Runs
pub mod Loops
pub mod Parts
pub mod Columns
