-- Whether the intervals that are kept of two productions leave some value to each attribute

-- What is kept of the entry conditions of production p from 8 p on: a low and a high end for each inherited attribute
pub mod Intervals
