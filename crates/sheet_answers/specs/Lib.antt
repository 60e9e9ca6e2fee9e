-- 02 (i)'s answers for those of the code
pub mod Answers
