-- Some configuration is held, and what the operation's number says of the move at hand
pub mod Operations
-- What comes next, one after the other: tokens that are fed, or the end; as a grammar sees them and as the code brings them
pub mod Coming
-- One turn of the loop over the moves: what is left after it, and what it answers
pub mod Turns
-- Moves one after the other, and reads that follow one another, of tokens that bring no value: when one is at hand, and what they lead to
pub mod Reading
-- Reads that follow one another, of tokens that bring no value, counted all at once: the run and the places after them
pub mod Following
