-- The code's entries as those of a ranking
pub mod Entries
