-- The faults of a condition

-- The fault of a condition is the one that 01's table gives
pub mod ConditionJudged
