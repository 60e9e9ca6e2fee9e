-- The recursive evaluator: a node goes through its children, and each child is a node again

-- The record of a node, written when it is left: the values of its attributes still stand
pub mod nodes
-- The moves of the recursive evaluator: the machine's own, one at a time, those that need no next token, and those that look at it
pub mod moves
-- What the recursive evaluator is made of: the run's numbers in lent cells, a child passed, a node entered, a node left and its record written
pub mod steps
