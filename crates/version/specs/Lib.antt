-- What a reader must believe: the version.
pub mod Version
