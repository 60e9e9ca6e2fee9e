-- A stack in cells of which all are lent: beside the laws of `run_registers`, what is read from the top, and a pop
pub mod Laid
-- What the top frame still has ahead of it, as words from an address on
pub mod Ahead
-- A run in memory: how the lent stacks, the program's words and the run's numbers hold a configuration, and what it is to answer with a move
pub mod Held
-- The targets of the rules at hand stand marked, in any configuration of the shape
pub mod Marked
-- What each move leaves in memory: the new configuration is held, or the number refuses it and nothing changes
pub mod Moves
-- Moves that pass a symbol: the read of a token, and the remove, after which the place below goes on
pub mod Passing
-- Return addresses, each beside the place that goes on from it: what they say, whatever grammar the words are the program of
pub mod Returns
