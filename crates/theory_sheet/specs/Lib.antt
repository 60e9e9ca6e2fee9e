-- The run of a whole segment as one sequence of moves: a token is judged where it is first looked at, and the end where the tokens are over
pub mod Whole
-- A node in progress, as a configuration shows it: how moves enter a child, pass it and leave it
pub mod NodeInProgress
-- What each kind of move does to the run of the whole segment and to the node in progress
pub mod Walking
-- A segment from its opening to its end: the stack run's answer is that of its moves, and where the start symbol is left the children of the whole segment are its tree
pub mod Segment
-- A part of a segment's run as one big step: it is passed and the run goes on behind it, or it fails, and the run from before it on fails with it (Whole.Failing)
pub mod BigStep
-- Bytes laid over others from an offset on; those past the end are dropped
pub mod Overlay
