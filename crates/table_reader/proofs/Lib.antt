-- The tag 3 fields that are met in a table that is well formed are its productions
pub mod Accepted
-- The walk over the fields, one at a time
pub mod Walking
