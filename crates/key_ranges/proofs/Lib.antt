-- What the functions' proofs use.
mod NextKey
