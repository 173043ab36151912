-- The laws of the definitions, a file for each notion; `JoinedLists` has what was asked for.
pub mod LineRows
pub mod Canonical
pub mod Spans
pub mod Merging
pub mod OneList
pub mod Halves
pub mod Fewest
pub mod JoinedLists
pub mod PieceLaws
mod SomeOf
mod Examples
