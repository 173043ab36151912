-- The laws of the definitions, a file for each notion. Other crates cite these.
pub mod Oriented
pub mod ToSweep
pub mod ColumnParts
pub mod LentRows
-- what the functions' proofs use, and what callers use of their equations
pub mod Pastes
pub mod RowTables
pub mod SpreadTables
pub mod EventTables
