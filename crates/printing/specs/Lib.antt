-- The definitions: the text of a sheet.
pub mod Fields
pub mod Sheet
