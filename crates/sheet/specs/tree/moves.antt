-- The moves of the recursive evaluator: the machine's own, one at a time, those that need no next token, and those that look at it

-- One move on memory, or the number that refuses it: the machine's
pub mod Trying
-- Memory that holds a node in progress, and what moves lead to: a later configuration, or a refusal
pub mod NodeInMemory
