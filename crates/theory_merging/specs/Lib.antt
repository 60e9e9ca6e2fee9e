-- Two rankings merged are the ranking of both
pub mod Merging
-- A merge an entry at a time, as cells hold it; and a list sorted by halves
pub mod Placing
