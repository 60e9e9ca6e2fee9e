-- What the entries of ranked suggestions come to: the total of their values, and how many have one

-- Total and number of the valued entries, an entry at a time
pub mod Sums
