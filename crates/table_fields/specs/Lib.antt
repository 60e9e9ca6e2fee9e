-- Demands on a field, each with the refusal number that stands for it: the first that fails gives the number, 0 if all hold
pub mod Demand
-- A field by its offset: its size, its body, and what is read from it on
pub mod Field
-- The faults of the fields of tags 1 to 3 and 6, as lists of demands on their bytes
pub mod Judge
-- States with a header read, by their parts
pub mod Reads
