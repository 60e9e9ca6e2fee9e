-- The field of a production in each way it can go, and the counts at its positions
pub mod Producing
-- Productions, one after the other, and their rows
pub mod ProductionRows
-- The words of the right sides, kept while another production is read
pub mod Wording
-- The field of a production read, by its head and its symbols
pub mod FieldsRead
