-- The matrix of a list of entry conditions, which has 81 entries; the one at i * 9 + j says that node i's value is at most node j's plus the entry

-- What the test of a diagonal says
pub mod Tested
