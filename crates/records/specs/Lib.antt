-- A list of records as columns.
pub mod Records
