-- The laws: bits of a number, members of a set, the greatest member of a range.
pub mod Digits
pub mod Sets
pub mod Lasts
pub mod Stores
pub mod Rests
pub mod Looks
