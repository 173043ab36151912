-- The laws of the definitions, a file for each notion.
pub mod EntryLaws
pub mod Directions
pub mod Scans
pub mod FirstRefusal
pub mod AnyOrder
pub mod ColumnLaws
pub mod ListOrders
pub mod Fit
pub mod GapLaws
pub mod LeastFloatLaws
pub mod Examples
