-- The image of a table's productions: 16 bytes for each
pub mod Images
-- The outline of a table that is read whole: what the lent arrays, and the numbers beside them, say of its grammar
pub mod Outline
-- How many attributes a symbol has, by its byte and the counts of the nonterminals
pub mod Counts
