-- What is promised of the five measures, the tight pair and the joiner. A reader begins with Demand1, Demand2 and Demand3 (SCOPE 8.1, 8.2, 8.3).
pub mod Demand1
pub mod Demand2
pub mod Demand3
pub mod TightPair
pub mod Marked
pub mod ShutOut
pub mod Directions
pub mod Joining
-- what they use: which refusal applies, and the measures and their runs
pub mod Applies
pub mod Measures
