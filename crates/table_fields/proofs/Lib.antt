-- Small facts that many proofs use
pub mod Cases
-- How an early return meets a list of demands: the demands before it hold, its own fails
pub mod Demands
-- A test on every element of a list, walked from the front
pub mod Walks
-- What holds of a field without a fault
pub mod Fine
-- Reading from an offset on, one field at a time
pub mod Rest
-- The faults of tags 1 to 3 and 6 are those that 01's table gives
pub mod Judged
-- Whether a symbol is known, by its byte
pub mod Symbols
-- A list of tests with their numbers: the number of the first that fails, or what comes after them where all are met
pub mod Tests
