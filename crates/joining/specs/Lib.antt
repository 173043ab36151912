-- The definitions, one file for each notion. What a reader must believe of the joined list are `Points` and `JoinedLists`; `Joined` is one way to compute it.
pub mod Points
pub mod Joined
pub mod JoinedLists
pub mod Conditions
pub mod Answer
-- what only contracts of inner functions and proofs cite
pub mod Inner
