-- Rounds over the productions, forwards and backwards in turn, until one changes nothing
pub mod Rounds
-- Words with the same members are the same number, so that a test of numbers tells whether a set lies in another
pub mod Bits
-- The steps of closing: nullable and productive
pub mod Closing
-- A table of sets, one word for each nonterminal
pub mod Tables
-- Sets that spread along edges: where row a of the edges has b, what b has, a has too
pub mod Spreading
-- What a right side begins with: gathered along it, and spread from front to front
pub mod Fronts
-- FOLLOW over the rows: from the rest of a right side, and from what comes after the left side where the rest derives nothing
pub mod Follows
-- What closing and reaching over the rows end at is what 01's definitions compute: nullable, productive, reachable
pub mod Agreeing
-- What the passes over the rows end at is what 01's definitions compute: first, follow, and FIRST-then-FOLLOW
pub mod TokenAgreeing
-- The left recursive nonterminals over the rows are those that 01's definition computes
pub mod RecursionAgreeing
-- Tests of the numbers from one number on: all, some, and the lowest
pub mod Numbers
-- The lowest of the first numbers that passes a test, where one does
pub mod Lowest
-- FIRST-then-FOLLOW over the tables that the code keeps
pub mod Starts
-- The first n numbers as one word, and words that have all that stands in the productions
pub mod Firsts
-- Refusals 11 to 13 of a grammar as one finding, and the verdict that a table gets from it
pub mod Finding
-- What the code finds is what 01's definitions compute: the lowest useless and left recursive nonterminal, and the sets of the productions
pub mod Judged
-- 01's example, by computation
pub mod Cases
