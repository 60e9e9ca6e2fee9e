-- The record of a node, written when it is left: the values of its attributes still stand

-- How many attributes the left side of a node in progress has: the program tells it of the place below, which waits at that symbol
pub mod Counting
-- The record of the node in progress, as the code writes it
pub mod Recording
