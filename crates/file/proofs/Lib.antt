-- The first 9,774 bytes decide.
pub mod FirstBytes
-- readers of one width, their lists, and the parts of a file
pub mod BigEndian
pub mod Fixed
pub mod FixedParts
pub mod FixedPlaces
pub mod FixedLists
pub mod ReadingParts
pub mod ReadingLaid
-- the columns that a file fills
pub mod ColumnsFilled
pub mod ColumnsRead
