-- Fields that nothing is wrong with, by their bytes
pub mod Fields
-- Words that have all their bits
pub mod Full
-- The walk past sound rules and conditions, and its end: every output has its rule
pub mod Walking
