-- The number of what stands for a refusal
pub mod Numbered
-- 01's numbers and values for the states and answers of the code
pub mod Records
-- The states that the code makes, and 33 and 40 by a state alone
pub mod States
