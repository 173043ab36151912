-- The laws of the exemptions as words.
pub mod ExemptLaws
