-- Selectors by levels: how many registers above the left side's stand below those of each position
pub mod Levels
-- The words of a scheme, symbol by symbol: an add, an evaluate, an expect, a test
pub mod SchemeWords
-- What the builder has of one production: its row (left side, length, symbols as the table has them), the bytes of its rules and conditions, and the attribute counts of all nonterminals
pub mod OfProduction
-- What the places of a production wait at: a word for each symbol, then zeros
pub mod Waits
-- The definitions of specs/ by the tests that the code makes
pub mod Laws
-- The instructions of one symbol
pub mod Symbols
-- The loop that finds the levels
pub mod Leveling
-- The loop that writes what the places of a production wait at, and the zeros behind
pub mod Waiting
-- All symbols of a production with the addresses of their expects, and the end of its scheme
pub mod Schemes
-- The body of a production, part by part
pub mod Bodies
