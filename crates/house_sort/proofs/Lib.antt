-- The halves of a list sorted, and merged back into it
pub mod Sorting
