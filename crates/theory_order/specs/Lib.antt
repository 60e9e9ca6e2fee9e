-- What a permutation, and a list with the same members, leave as it was
pub mod Shuffles
-- Productions that are the same but for order, one by one; a grammar with other productions
pub mod Each
-- Configurations that correspond: the same places, registers and counts, and instructions that do the same
pub mod Alike
-- FIRST, FOLLOW and FIRST-then-FOLLOW read left and right sides alone
pub mod SameSets
-- Rules in another order write the same registers, conditions with the same members test the same: schemes correspond
pub mod SameSchemes
-- 34 reads left and right sides and counts alone
pub mod SameFit
-- Two grammars whose schemes, sets and entry conditions agree: corresponding configurations move to corresponding ones, and each call gives the same answer, record and stacks
pub mod SameMoves
-- Grammars that are the same but for order: the same moves, and every call gives the same answer, record and stacks
pub mod SameCalls
-- The calls on an inner run under grammars that are the same but for order: the same answer, both records and stacks
pub mod SameInner
-- Grammars that are the same but for order: well-formed, useful, without left recursion and without clashes together
pub mod SameVerdict
-- The order of bytes, and what arranging a list by a key gives: rising, nothing lost, alike for lists with the same members
pub mod Arranging
-- House order: the same but for order, alike for grammars that are, done once for all, laid out, and never longer than a table of the grammar
pub mod House
-- Every byte in house order is one of the table's
pub mod HouseBytes
-- The promises of `HouseStatements`, proved
pub mod Proved
-- A list of calls under a table is one under every table that is the same but for order: the same tokens, record and stacks
pub mod Histories
-- Keys compared byte by byte, for the loop of the writer's code
pub mod Keys
-- Arranging a list element by element from its front: each is put in its place among those before it
pub mod Gathering
-- House order read off the fields of a table, with no grammar in between: 02's sentence taken literally
pub mod OnFields
-- The fields of a table by their offsets: the one at an offset, those of a production's stretch, and the first bytes of a field's body as its key
pub mod FieldWalk
-- The plan of a table: the offsets of its fields in house order, from the first production on
pub mod Planning
