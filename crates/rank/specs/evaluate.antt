-- A candidate of 02 (b), under a program that is at hand: "evaluate each in turn on stacks opened afresh"

-- What opening leaves, and the run that it begins
pub mod Opened
-- What a candidate's run answers and leaves
pub mod Ran
