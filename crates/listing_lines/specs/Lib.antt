-- One line of the listing each, and its parts by the numbers that the program's words hold
pub mod Line
-- Rows: lines from words
pub mod LineExamples
