-- The proofs of what specs/ states, under the same names.
pub mod Promise
pub mod Calls
