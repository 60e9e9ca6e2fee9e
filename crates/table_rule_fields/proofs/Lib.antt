-- A rule that nothing is wrong with: its target an output without a rule, its operands inputs below it
pub mod Sound
-- The fault of a rule is the one that 01's table gives
pub mod RuleJudged
