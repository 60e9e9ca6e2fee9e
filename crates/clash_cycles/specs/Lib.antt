-- The values of the nodes, as the code writes them into nine cells
pub mod Values
-- The matrix of a list of entry conditions, which has 81 entries; the one at i * 9 + j says that node i's value is at most node j's plus the entry
pub mod differences
