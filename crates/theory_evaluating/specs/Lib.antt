-- 02 (b): a candidate is one run from the opening; the statements.
-- A candidate's opening, feed and finish are one run from the opening configuration
pub mod Whole
-- The four ways of a candidate: 31, 32, a token refused, or finished; each is its evaluation
pub mod Outcomes
-- What others left on the stacks plays no part; what a candidate answers
pub mod Alone
-- Demand 2 for each candidate, and what entries in candidate order say
pub mod Values
-- The statements of 02 (b), proved
pub mod Proved
