-- What is promised, as statements: each is a type, and its proof, in a theory crate, is a value of it.
-- ---- the demands
-- Demand 1, as statements
pub mod CallStatements
-- Demands 2 and 3, as statements: each is a type, and its proof, in theory_demands, is a value of it
pub mod Statements
-- Demand 3 as one claim over lists of calls: picture, moves, selectors and returns together
pub mod Claim
-- The demands, as statements: a production's stretch of the table, and the program that a call writes
pub mod TableStatements
-- ---- what the change requests promise
-- What 02 (f) says of quotients, as statements: each is a type, and its proof, in theory_base's Quotients, is a value of it
pub mod ValueStatements
-- 02 (l): "The editor underlines the token at which 21 is given."
pub mod MarkedToken
-- 02 (j): "Two alternatives with entry conditions whose sets meet clash exactly if some whole-number values in range meet all entry conditions of both; the check finds such values or shows that the differences close a cycle with a negative sum, bounds counted in."
pub mod CompareStatements
-- 02 (e), as a statement: which values a feed ignores
pub mod TokenStatements
-- 02 (h), as statements: an inner run over an outer one
pub mod InnerStatements
-- ---- examples: what the statements say and exclude; the other rows are in the crate meaning_rows
-- What the statements exclude: an answer, an engine and a record that do not meet them; and what counts for nothing in a list of calls
pub mod StatementRows
-- What the statements on tokens with values say and exclude: lists of one length, values ignored, and the tag 6 fields in stretch and program
mod TokenStatementRows
-- 02 (j): a cycle with a negative sum by way of the limits of values
pub mod CompareStatementRows
-- What the statements on inner runs exclude: an outer run of words and tags stopped after word open, on 16 registers and 9 places, and inner runs over it
pub mod InnerStatementRows
