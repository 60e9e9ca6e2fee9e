-- Stacks that are opened hold the opening's configuration
pub mod Opening
-- A segment walked from its opening to its end: its value and its tree's records, or its refusal
pub mod Segments
-- A segment walked over cells of which the first ones are lent
pub mod Starting
-- The call from a table's bytes: the table's refusal, or what is done under its grammar
pub mod Calling
-- The recursive evaluator: a node goes through its children, and each child is a node again
pub mod tree
