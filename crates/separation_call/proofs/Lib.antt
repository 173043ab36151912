-- Laws that code which pays for each visit and stores summaries uses, a file for each notion.
pub mod Trees
pub mod NetCounts
pub mod StoredTree
pub mod StoredSearches
pub mod StoredSets
pub mod ActiveNets
pub mod LineNumbering
pub mod SlotLaws
pub mod SweepSteps
pub mod SweepWork
pub mod SweepRun
pub mod SweepLoop
pub mod TablesMade
pub mod AlongColumns
pub mod WholeCall
