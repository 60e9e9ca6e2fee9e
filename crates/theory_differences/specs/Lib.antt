-- Whether some values in range meet a list of conditions on differences: exactly where no cycle of the graph has a negative sum, and that is what Differences computes.
-- The order of the whole numbers and its laws for sums and minima
pub mod Order
-- The graph of the differences: node 0 stands for zero, node a for the attribute a
pub mod Graph
-- A matrix M of differences whose later nodes have been eliminated has values that keep it, if its diagonal is not negative
pub mod Solving
-- The elimination of a matrix of 81 numbers: what each turn does to each entry, what holds of all entries, and that no sum can overflow
pub mod Closing
-- A matrix that stands for a list of conditions; what its elimination says of them: values that meet them, or a negative cycle
pub mod Decided
-- The matrix of a list of conditions stands for them, so the computed test says whether some values meet them; otherwise a cycle is negative
pub mod Building
