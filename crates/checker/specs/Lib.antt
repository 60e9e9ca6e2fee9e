-- A table judged: accepted, with what the calls take from it, or refused
pub mod Judging
-- 01's numbers and values for the answers of the public calls
pub mod Verdicts
-- Refusals 11 to 13: the analysis of the grammar, then the clash test
pub mod grammar
