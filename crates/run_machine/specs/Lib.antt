-- What is answered for what the machine settles in
pub mod Advancing
-- What comes next, one after the other: tokens that are fed, or the end; as memory and the program's words hold the configuration
pub mod Feeding
-- One loop over the moves for all that comes: what is left after each of its turns, and what ends it
pub mod Flows
-- What comes next by its number, and what a place counts
pub mod ComingExamples
