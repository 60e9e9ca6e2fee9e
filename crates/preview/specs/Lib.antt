-- 02's numbers and sets for what the set's call answers
pub mod May
-- What the set answers, by what was tried on the lent cells
pub mod Answering
-- The set's call by what it begins with: 30, the table, and its program written
pub mod Beginning
-- Whether a token is expected where a run stands: the program's words tell it without a try
pub mod expected
-- A token tried on scratch cells: the caller's cells are only read
pub mod scratch
-- Whether a token is let through
pub mod token
-- The set of tokens that are let through, one try after the other
pub mod collect
-- What turns a preview and the set back
pub mod judging
-- A preview on exactly the lent cells
pub mod lent
-- A preview on cells of any length, under a grammar whose program is at hand
pub mod cells
