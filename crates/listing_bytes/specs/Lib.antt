-- Text written into a buffer at a position: what the buffer holds then, and the position behind the text
pub mod Written
-- Decimal digits: the last digit stands behind those of a tenth, a 32-bit number has at most ten
pub mod Decimal
-- Rows: some numbers in decimal
pub mod DecimalExamples
