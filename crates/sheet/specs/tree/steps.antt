-- What the recursive evaluator is made of: the run's numbers in lent cells, a child passed, a node entered, a node left and its record written

-- The numbers of a walk in eight cells: the run's five; where the sheet goes on, or the number that refuses; how many registers and places are lent
pub mod Numbers
-- A node is left: its record is written, and it becomes its parent's child
pub mod Leaving
-- Nodes and lists of children: what each comes to, and how one follows from the other
pub mod Cycle
-- What the functions of the walk rely on and leave, over cells of which the first ones are lent, and the numbers
pub mod Walks
