-- The definitions, a file for each notion.
pub mod Orientation
