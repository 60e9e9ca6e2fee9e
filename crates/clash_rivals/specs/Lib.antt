-- Pairs of productions by their rows, their sets and what is kept of their entry conditions: a low and a high end for each inherited attribute, production p's from 8 p on, and what there are of them: 0 none, 1 ranges, 2 a comparison
pub mod Rivals
-- The test of two productions, by computation
pub mod Examples
-- Whether the intervals that are kept of two productions leave some value to each attribute
pub mod intervals
