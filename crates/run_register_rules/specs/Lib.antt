-- The functions that rules have most often: a constant (0), a copy (1), a sum (2), and a sum with a constant (7)
pub mod Common
-- The targets of rules, marked again
pub mod Remarked
-- Rules evaluated straight into their registers: what stands when some of them are
pub mod Straight
