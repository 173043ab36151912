-- What the functions' proofs use.
mod FromDensity
