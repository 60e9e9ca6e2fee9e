-- 02's numbers for the answers of the check of a sheet, and what it asks and promises of a table that is accepted
pub mod Judged
