-- What the proofs of the functions use, a file for each notion.
pub mod Tables
pub mod Runs
pub mod Writes
pub mod Answers
