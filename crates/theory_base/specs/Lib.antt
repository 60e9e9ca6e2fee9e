-- Truth values as facts; members of lists, and what keep, all, any, map, reverse and counting say of them
pub mod Members
-- A test of every cell of a list, one after the other: what is left of it after i cells
pub mod Cells
-- The size of a whole number, of its negation, of a sum and of a difference
pub mod Absolute
-- The laws of `Value.quotient` and `Value.floored`, which are sealed
pub mod Quotients
-- What follows from the rules of 01 for each node in progress: its production is a listed one or the whole segment's
pub mod WellFormed
-- Functions and conditions see only their operands
pub mod Agree
-- 001's selectors find the registers of the occurrences they name
pub mod Selectors
-- What a list of rules writes into a stretch of registers: each value where its target lies, all else unchanged
pub mod Evaluate
-- The values of a part stay as it grows, and are those of the tree it becomes
pub mod Values
-- An instruction stands in a scheme exactly where the walk counts a move for it
pub mod Present
-- What an evaluate writes, whatever lies below: the inherited values of the symbol at hand, and the left side's synthesized ones
pub mod Evaluations
-- What a move adds to a good node: the child's inherited values, the left side's synthesized values, the conditions tested
pub mod Grow
-- A frame that waits: its place, and the frame that a place gives back
pub mod Frames
-- The moves of a tree's walk, counted without naming them: how many it makes for the part that is opened after j tokens
pub mod MoveCounts
-- The walk of a tree has as many moves as 01 counts: after j tokens, and in all
pub mod WalkCounts
-- A feed as its grammar sees it: kinds and values of equal number are leaves, each with the values that its terminal has
pub mod Feeds
-- Lists of calls under one grammar: those of meaning's History without their tables and areas, and without the calls that count for nothing
pub mod CallsUnder
-- 01's walk of a whole tree: its moves, and the room it needs
pub mod Walks
-- What one move of the machine leads to, by its instruction
pub mod Steps
