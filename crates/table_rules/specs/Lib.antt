-- The faults of the fields of tags 4 and 5, as lists of demands on their bytes and on the counts at each position of their production
pub mod Rule
-- What the lists of counts and the note of a production stand for, and what is asked of the note
pub mod Note
-- What an occurrence is, by number
pub mod Classes
