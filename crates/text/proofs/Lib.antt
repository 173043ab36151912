-- a text put into a buffer, and the digits of numbers
pub mod TextPuts
pub mod DigitTexts
