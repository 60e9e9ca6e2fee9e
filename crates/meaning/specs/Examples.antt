-- Examples, computed from the definitions: they hold each definition in place. Here are the grammars that they use and the rows that the must-fail edits need, few and quick, since each edit checks them again; the other rows are the crate meaning_rows.
-- ---- the grammars: 01's words and tags, and others; what stands on the stacks for them
-- 01's grammar of words and tags: its listing as a scheme, and the starred runs on the machine, computed from the definitions
pub mod WordsAndTags
-- Tables that the rows use, in pieces
pub mod Samples
-- The picture and the walk of a tree of the grammar of words and tags, at each stop, beside what the machine shows
pub mod Pictures
-- ---- tables, their rules and limits; sets and clashes
-- The table of the grammar of words and tags, read; then refusals 2, 3, 4, 5, 6 and 8 of small tables
pub mod TableRows
-- The constants of rules and conditions: their sign and their limits
pub mod RuleRows
-- The limit of a table's bytes
pub mod LimitRows
-- Refusals 12 and 13: a recursion that is hidden, clashes and entry conditions
pub mod SetRows
-- 02 (j): what a comparison says, its entry in the matrix, and the sign of a cycle
pub mod CompareRows
-- ---- values, schemes, walks, parts
-- Values: the range and its ends, the mark, each function with negative operands, the two kinds of condition
pub mod ValueRows
-- A grammar whose symbols have several attributes, with conditions at several positions: its scheme
pub mod SchemeRows
-- A tree with conditions and several attributes: X to Y 0 X Y
pub mod WalkRows
-- A part of a tree walked so far, X to Y 0 X Y before its last Y; and what a selector finds there
pub mod PartRows
-- ---- calls, refusals, listings
-- What is not so: a selector that finds another value; and what is said of the tree while tokens are to come
pub mod NegativeRows
-- The calls, computed on the grammar of words and tags, on stacks that held something else: record, answer and every cell
pub mod CallRows
-- Refusals of a segment and of the state: 20, 23, 31, 33, 34, 35, 40, and the result that the header names
pub mod RefusalRows
-- 01's listing, byte for byte
pub mod ListingRows
-- The calls as a caller makes them: 30 comes before the table
pub mod PublicRows
-- ---- tokens that carry a value: 02 (e)
-- 02 (e), tag 6: where it may stand, its refusals, and what it makes of a terminal's attribute in rules and conditions
pub mod TagRows
-- 02 (e), runs: tokens that carry a value
pub mod TokenRows
