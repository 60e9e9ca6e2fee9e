-- The entry of a candidate of 02 (b), in the list

-- Small numbers as signed words
pub mod SmallNumbers
