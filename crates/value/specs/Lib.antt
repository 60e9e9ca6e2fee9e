-- A number where it is a value, and the mark where it is none: so that one i64 answers both
pub mod Ranged
-- The nine functions by their numbers in 01
pub mod Computed
-- Four bytes as one number, and the constant that it stands for
pub mod Constants
-- The size of a sum, a difference and a product, and of a number between two bounds
pub mod Sizes
-- How the code finds the quotient: by the processor's division, which is toward zero
pub mod Nearest
-- No overflow, for all functions but the product: on values every exact result lies strictly between the lowest and the highest 64-bit number, so it fits an i64 and is not the mark
pub mod Overflow
-- Rows: what the definitions say of some numbers
pub mod Examples
