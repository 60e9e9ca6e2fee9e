-- The cases of the call
pub mod Listing
-- The stacks of a candidate of 02 (b) opened afresh, and what it leaves
pub mod afresh
-- A candidate of 02 (b), under a program that is at hand: "evaluate each in turn on stacks opened afresh"
pub mod evaluate
-- The candidates of 02 (b), one after the other: "evaluate each in turn on stacks opened afresh", and an entry for each
pub mod candidates
