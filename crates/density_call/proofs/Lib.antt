-- What the functions' proofs use: the code's tables, and what a wire meets.
mod RangeSearch
mod PlaceFolds
mod GapFloats
mod MeetingLaws
mod MeetingLoop
-- the code's sweep
mod DueEvents
mod RowPlaces
mod Marking
mod EventSteps
mod EventLoop
-- rows and their wires, both orientations
mod RowWires
mod RowTabled
mod BothWays
mod AlongWires
mod SweptBoth
-- the whole call
mod WholeCall
