-- What the proofs of the functions rest on.
mod Deciding
