-- What is promised of the calls. A reader begins with Promise; the demands that it names are in the crate `demands`.
pub mod Promise
pub mod Calls
