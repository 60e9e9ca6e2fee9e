-- What the analysis of a grammar answers, as 01's number and a nonterminal
pub mod Flaws
