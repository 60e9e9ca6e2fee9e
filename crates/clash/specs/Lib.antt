-- The interval that entry conditions leave to each attribute, and that ranges agree by twos exactly where no interval is empty
pub mod Intervals
-- Ends that are kept for all productions, production p's from attributes_limit * p on
pub mod Kept
-- Whether two productions can be entered with the same values: the last part of a clash, and what the intervals tell of it
pub mod Together
-- The productions of a table that is read stand at their offsets
pub mod Placing
-- The search for the lowest clash, over what the reader and the analysis leave of a table
pub mod Clashing
-- 01's starred cases, by computation
pub mod Cases
