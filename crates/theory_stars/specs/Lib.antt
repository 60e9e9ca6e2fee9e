-- The table of two ranges, judged
pub mod Ranges
-- Runs of the grammar of words and tags from its table's bytes: an opening, a feed and a finish, each on the memory that the call before left
pub mod Runs
-- A call that is not turned back before its moves: after the opening of the grammar of words and tags
pub mod Met
-- The cases that 01 marks with a star, each from the table's bytes through the calls on memory, under one theorem
pub mod Stars
