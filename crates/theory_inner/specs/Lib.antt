-- 02 (h): the inner run is a run alone on what is left, and the outer run is kept.
-- Stretches of stacks: what is pasted above a beginning is read back, and all else stays
pub mod Stretch
-- The stretch as a part of each lent slice, from the beginning to what is lent: the cells that are lent on, and the whole with a part put back
pub mod Slices
-- What every call of the engine leaves of a run that is open: stacks of the same lengths, and a record that is open or closed and never waits nor is an inner one
pub mod OpenRunKept
-- Demand 1 for openings of inner runs: each is one of its cases, only that one, and does what is said of it
pub mod Cases
-- Demand 1 for later inner calls: each is one of its cases, only that one, and does what is said of it; one that is not turned back by the records is the engine's call on the stretch
pub mod Calling
-- The cells outside the stretch: no inner call writes one, and no later inner call reads one
pub mod Outside
-- An inner run beside the run alone that it is: one invariant, kept by every inner call
pub mod InnerAlone
-- An opening of an inner run that is not turned back: the outer run is open, all above its heights is cleared, and the inner run stands as one opened alone
pub mod InnerOpened
-- 02 (h), proved: the statements of meaning's InnerStatements on lists of calls
pub mod Proved
-- Demand 1 for inner runs: each inner call gives what it is for, or one numbered refusal; and what is turned back while the outer run waits changes nothing
pub mod Answering
-- Lists of inner calls: each is a list of calls of a run alone
pub mod Lists
