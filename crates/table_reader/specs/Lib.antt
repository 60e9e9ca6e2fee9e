-- The fields of a table in their order, walked by their lengths
pub mod Fields
-- Worked rows for the walk over the fields
pub mod WalkExamples
