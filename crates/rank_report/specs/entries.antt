-- The entry of a candidate of 02 (b), in the list

-- Entries in the list
pub mod Entries
