-- The laws of the definitions, a file for each notion.
pub mod Summaries
pub mod Searches
pub mod TwoNets
pub mod Lines
pub mod NearestLines
pub mod ActiveRows
pub mod Sweeps
pub mod Costs
pub mod Places
pub mod Running
pub mod Fit
pub mod WalkFigures
pub mod AnyOrder
pub mod Checked
pub mod Answers
pub mod Examples
-- laws that code which pays for each visit uses
pub mod Allowances
pub mod States
