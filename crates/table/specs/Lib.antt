-- What is read so far, as lists of numbers: the rows and offsets of the productions
pub mod Laid
-- The reader's answer, and what it says of a table
pub mod Answer
-- The reader with a note of the occurrences set: 8 is asked of the note, the symbols and the counts, never of the rules read before
pub mod Gathered
-- The word of the terminals that carry a value, by the grammar that was read
pub mod CarriedSet
