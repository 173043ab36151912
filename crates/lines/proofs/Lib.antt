-- What the proof of `Columns::copy_from` uses.
mod Copying
