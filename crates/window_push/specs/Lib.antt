-- What the functions for one more value need and answer
pub mod Parts
-- The leaders with one more value, and the numbers that the check has found
pub mod Leading
