-- The children that a node in progress still has to come, of a well evaluated tree's node
pub mod ChildrenToCome
-- The node of a tree that stands on the ancestors of a part, and what comes after it
pub mod NodeOnAncestors
-- The rules determine a node's values: a part that begins a tree's node has handed the next child that node's values, and once complete it is that node
pub mod Determined
-- A part that has begun a given tree: each move from it leads to a part that has begun the same tree
pub mod BegunKept
-- The moves that a tree's walk still has to make from a part that has begun the tree: each move of the machine is the first of them
pub mod Remaining
-- Whatever the opening leads to shows a good part that has read a first part of the stream
pub mod OpeningShowsPart
-- Demand 3's sentences on selectors and on the registers below a part, for every accepted table
pub mod SelectorsAlways
