-- The candidates of 02 (b), one after the other: "evaluate each in turn on stacks opened afresh", and an entry for each

-- Candidates that are evaluated, and those that are left
pub mod Each
