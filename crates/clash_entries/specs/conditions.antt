-- The entry conditions of one production, read from its fields in the table

-- Bounds as words that order as they do: the bound plus 2,147,483,648
pub mod BoundWords
-- The entry conditions of a production, read from its stretch of the table: from its tag 3 to the next or the table's end
pub mod EntryConditions
-- The walk along the fields of a production, from the one after its own on: a state changed by each entry condition
pub mod Walk
-- Fields, by computation
pub mod Cases
-- What entry conditions a production has, by how much they say: 0 none, 1 ranges, 2 a comparison
pub mod Ranks
