-- 01's numbers for a program made of a table, and what a caller may count on by each
pub mod Making
-- What each call begins with: 30, the table, and its program written
pub mod Beginning
