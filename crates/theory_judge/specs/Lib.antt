-- Numbers of four and of eight bytes, read from a list of bytes and written to one: both ways round
pub mod Longs
-- What a sheet describes from a place on: a tree, or a tree for each symbol of a list, taken apart and put together
pub mod Described
-- The rules and conditions of a production, judged by the values of its occurrences from the bytes of their fields
pub mod Holding
-- Where the values of a node's occurrences are read: for each position a mark, the place of a record in the sheet, or behind the sheet the number of a token
pub mod Marks
-- The ways out of a node and of a list of children: what is described has these ends and no others, or nothing is described
pub mod Passing
-- A number of 64 bits read with 2 ^ 62 added, so that all that are near 0 are one stretch
pub mod Biased
-- What is read from the bytes of a field, step by step, is what the field says
pub mod Judged
-- The whole sheet: what it describes from its beginning, up to its end and the segment's
pub mod Whole
-- The statements on sheets from other tools, proved
pub mod JudgeProved
-- Sheets from other tools, judged on the grammar of words and tags: one word, whose sheet has 76 bytes
pub mod JudgedRows
