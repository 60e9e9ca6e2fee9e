-- 02's numbers and values for the answers of the code
pub mod Answers
-- What the list comes to
pub mod Report
-- The entry of a candidate of 02 (b), in the list
pub mod entries
