-- Refusals 11 to 13: the analysis of the grammar, then the clash test

-- From the outline of a table and the analysis of its grammar to the answer
pub mod Concluding
