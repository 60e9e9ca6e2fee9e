-- The note of the occurrences that a production's rules have set: bit a - 1 of the byte at a position is attribute a

-- Bits of a number: one set, the lowest ones tested
pub mod Bits
-- The note of the occurrences that a production's rules set: what is in it by its bits, and how it grows
pub mod Noting
-- The note against 01: every output noted
pub mod Complete
-- A production has a gap exactly if not every output of it has its rule
pub mod Gaps
