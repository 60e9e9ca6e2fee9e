-- The bits of a range of attributes, looked at one by one: there are few
pub mod Ranges
-- The words at the positions of a production against the classes of its occurrences
pub mod Laws
-- The note by which words are settled, made again from the words
pub mod Noted
