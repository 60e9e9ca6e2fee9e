-- 02 (m): sheets from other tools
pub mod Judge
-- 02 (m), as statements: each is a type, and its proof, in theory_judge, is a value of it
pub mod JudgeStatements
-- The definitions on sheets from other tools, computed on the grammar of words and tags: one word
pub mod JudgeRows
