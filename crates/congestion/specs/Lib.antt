-- The definitions, a file for each notion.
pub mod Wires
pub mod Cells
pub mod Figures
pub mod Rounded
pub mod Visits
pub mod AllPairs
pub mod Walk
pub mod RoundedSweep
pub mod Conditions
pub mod Answer
pub mod Ratio
-- what only contracts of inner functions and proofs cite
pub mod Inner
