-- The laws of the definitions, a file for each notion.
pub mod Rank
pub mod Rounding
pub mod Difference
pub mod Bits
pub mod Zeros
pub mod Gaps
pub mod Extremes
pub mod Trichotomy
pub mod Keys
pub mod NumberKeys
pub mod TotalOrder
pub mod Units
-- what the proof of `on_grid` uses
mod Scaling
mod GridTest
