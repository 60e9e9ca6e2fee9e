-- Refusals 11 to 13: the analysis of the grammar, then the clash test

-- The answer on a table that is read whole
pub mod Concludes
