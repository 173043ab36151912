-- The proofs of what specs/ states, under the same names, and what they rest on.
pub mod Demand1
pub mod Demand2
pub mod Demand3
pub mod TightPair
pub mod Marked
pub mod ShutOut
pub mod Directions
pub mod Joining
-- what they rest on: the first refusal, the order of the checks, the floats of a report, the facts of each measure, and the demands of one measure from its facts
mod FirstMet
mod CheckingOrder
mod Numbers
mod Facts
mod ClearanceFacts
mod SeparationFacts
mod CongestionFacts
mod AllFacts
mod OneCall
mod Counts
