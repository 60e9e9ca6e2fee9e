-- A table read to its end, as a chain of fields that each stand where they may and pass every test; and that the bound of `read_all` never decides
pub mod Reading
-- The tests of 5, 7, 8 and 9 on one production as it is read, against 01's inputs and outputs: each test passes exactly where its clause of the rules holds
pub mod Occurrences
-- What holds of everything read so far, and that each field that passes keeps it
pub mod Invariant
-- A table read without one of refusals 1 to 10 holds a grammar that meets 01's rules
pub mod ReadWellFormed
-- The grammar of an accepted table meets the rules of 01
pub mod AcceptedTable
-- Numbers, symbols, rules and conditions as bytes, and read back: both ways round
pub mod Numbers
-- A grammar that meets 01's rules is read from every table in which it is laid out
pub mod LaidOutRead
-- The body of each field that passes, as the bytes of what it says
pub mod Bodies
-- Where in the bytes of a table that is read the header, the counts, the tokens that carry a value and the productions stand
pub mod Places
-- The bytes of a table from its productions on: each production's stretch, from its tag 3 to the next or the end, with the offset at which it stands
pub mod Stretches
-- The grammar read from a table is laid out in it, each production's stretch at its entry's offset
pub mod ReadLaidOut
-- A table is read without one of refusals 1 to 10 exactly where a grammar that meets 01's rules is laid out in it, in at most 32,768 bytes
pub mod Exactly
-- 01's grammar of words and tags: its table is a layout of it, by computation, and it meets the rules
pub mod WordsExample
