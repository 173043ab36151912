-- The laws of the definitions. Those that `demands` and `printing` cite:
pub mod Checked
pub mod Fitness
pub mod SweepTheorem
pub mod Answers
pub mod Closeness
pub mod RoundedSums
pub mod RoundedDrawing
pub mod RangeTests
pub mod Examples
pub mod FoldLaws
-- what they use, and the code of `density_call`: cells, counts and keys
mod CellLaws
pub mod Sets
pub mod KeyUnits
pub mod RangeFloats
-- the sweep, event by event
pub mod Tracking
pub mod Moments
pub mod Passing
pub mod Peaks
mod EventOrder
pub mod Beginning
mod Meetings
pub mod Reaching
-- its figures
pub mod Bounds
pub mod UnitVisits
pub mod Oriented
pub mod Orientations
pub mod SweepFigures
pub mod FiguresOrder
mod Visits
pub mod LeastGap
pub mod RoundedSweep
-- the total that the code makes
mod SummedLengths
