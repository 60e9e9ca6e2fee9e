-- The window of 02 (k): its values from the oldest, their total and the largest by a scan, the cells that keep them, and the calls on its buffer
pub mod Window
-- The promises of 02 (k), as statements: each is a type, and its proof, in theory_window, is a value of it
pub mod WindowStatements
-- Rows for Window: a window of size 3, and the numbers of its answers
mod WindowRows
