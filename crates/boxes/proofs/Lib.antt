-- The laws of boxes: union and distance, spans, and boxes of any floats.
pub mod Growth
pub mod BoxLaws
pub mod Spans
pub mod AnyBoxes
