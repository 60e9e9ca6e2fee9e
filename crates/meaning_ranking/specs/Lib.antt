-- Ranked suggestions, 02 (b): entries, their order, the list of them in that order, its cells and its report
pub mod Ranking
-- The call of 02 (b): any bytes as a table, any program area, stacks, list, kinds, values and lengths
pub mod RankCall
-- What 02 (b) promises of the list: each candidate exactly once, in the one order that 02 gives, with the value of its tree or its refusal; what others left on the stacks, and the order in which candidates come, play no part
pub mod RankingStatements
-- Rows of ranked suggestions: the order, and the call on the grammar of words and tags
pub mod RankingRows
