-- 34's test is 34's meaning: `stacks_fit` holds exactly where `Fit` does
pub mod FitTest
-- 001's selectors lie among the registers that hold values, and where the targets lie
pub mod Selecting
-- The shape of a configuration: how many registers stand for each node in progress, which of them hold values and which the mark
pub mod Shape
-- Every move keeps the shape
pub mod ShapeMoves
-- What fits has the shape, and where the machine waits, a configuration of the shape fits again, each place giving back its frame
pub mod ShapeMemory
-- What the instruction at hand reads and writes, in any configuration of the shape: selectors stand between 1 and the height, every register read holds a value in range
pub mod Handling
-- What a call lays into the lent stacks fits and is read back; what fits is laid as it was
pub mod Memory
-- What a move counts, what it keeps within, and what blocks it
pub mod Bounds
-- Feeds and finishes as moves: whatever the tokens, what a call leads to is reached by moves, and one of 01's refusals stops it
pub mod Runs
-- A table is turned back with one of 01's numbers 1 to 13 only
pub mod TableNumbers
-- A call that brings an accepted table and a long enough area is the call under the table's grammar
pub mod Called
-- Every call that is turned back before its moves, and every opening: answer, record, stacks and area; and with the calls that move these are all
pub mod TurnedBack
-- The value of a token whose terminal has no tag 6 field is ignored, whatever else the call brings
pub mod Ignored
-- Demand 1: each call, for arbitrary bytes, areas, records, stacks and tokens, gives what it is for, or exactly one numbered refusal of 01
pub mod Answers
-- Cells past what is lent are neither read nor written
pub mod LentOnly
-- What is said of a call's moves determines its effect
pub mod EffectUnique
