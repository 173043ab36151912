-- No promise rests on a definition of this crate.
pub mod Inner
