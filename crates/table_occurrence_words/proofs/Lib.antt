-- The words of a token and of a nonterminal at a position, from the counts that are looked up
pub mod Placing
-- The walk along a right side, one symbol after the other
pub mod Along
