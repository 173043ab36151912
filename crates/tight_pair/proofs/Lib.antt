-- The laws of the tight pair, one file for each notion.
pub mod Checked
pub mod PairInput
pub mod PairLaws
pub mod TightPairExamples
