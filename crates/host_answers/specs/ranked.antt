-- The answer of a ranking as lent numbers

-- What the ranking passes on, in lent numbers
pub mod Suggested
