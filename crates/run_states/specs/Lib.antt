-- From stacks that fit, or from the opening, to a run that memory holds
pub mod Starting
-- What a call leaves, by the run that memory holds at its end
pub mod Leaving
