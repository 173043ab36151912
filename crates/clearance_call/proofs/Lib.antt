-- The laws of what the inner contracts cite, one file for each notion.
pub mod LeafOrders
pub mod LeafTrees
pub mod StoredBoxes
pub mod StoredLeaves
pub mod TableLaws
pub mod Prepared
pub mod LeafGroups
pub mod MarkLaws
pub mod NestedTrees
pub mod Unpruned
pub mod StoredWalk
pub mod LeafRuns
pub mod PartWalk
pub mod WalkRuns
pub mod WholeCall
