-- What the numbers of rules and conditions say of each other
pub mod Laws
-- Two's complement: constants and bounds in order
pub mod Order
-- The classes of occurrences, and the demands on a rule and a condition by them
pub mod ClassDemands
-- A fault has a number above 0, which stands for none
pub mod Faults
