-- The calls of 02 (g) by their judgement: 30, the table, 33, 40, 34, 39
pub mod Judging
-- The set of tokens: what is in it, and how it grows token by token
pub mod Tokens
-- 02 (g), proved: the statements of meaning's PreviewStatements
pub mod Proved
