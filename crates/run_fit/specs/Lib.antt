-- 34's test from the bottom up: the places and the registers as they lie in memory
pub mod Upward
-- What the program says of a grammar's places: one word a place, and the start symbol's registers
pub mod HasProgram
-- 34 looks at the lent cells alone
pub mod Cut
-- Examples: 01's grammar of words and tags, stopped after word open
pub mod Examples
-- Stretches of cells: all marked, all with values, all zero
pub mod cells
-- Where the registers end that a place tells, from the bottom up
pub mod past
