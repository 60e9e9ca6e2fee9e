-- One field of tag 1 or 2, in each way it can go
pub mod Steps
-- The tag 2 fields, one after the other
pub mod Counting
-- No fault has the number 0
pub mod Faulty
