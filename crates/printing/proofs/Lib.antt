-- Drawing D
pub mod DrawingD
-- the sheet's lines
pub mod Printing
pub mod SheetFits
