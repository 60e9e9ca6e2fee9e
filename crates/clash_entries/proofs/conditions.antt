-- The entry conditions of one production, read from its fields in the table

-- The ways of the functions on one field and on intervals
pub mod Laws
