-- More examples, computed from the definitions of meaning, meaning_inner and meaning_window, and of the statements: the rows that no must-fail edit needs. Each edit is tried on its own crate alone, so that these are not checked again for it.
-- ---- the table
-- The table of the grammar of words and tags, read; then fields, headers, counts and productions: refusals 1 to 6 and 8 where they stand, both sides of each limit, and their order
pub mod TableRows
-- The table's rules and conditions: what they are read as, refusals 4, 5 and 7 to 10, and their order
pub mod RuleRows
-- The table's counts at their limits: bytes, productions, rules and conditions, one below and one above
pub mod LimitRows
-- ---- alternatives
-- What 01 says by derivations, shown on small grammars: reachable, productive, FIRST, FOLLOW, left recursion, clashes
pub mod DerivationRows
-- Token sets of a small grammar, and refusals 11 to 13: which one, at which offset, in which order
pub mod SetRows
-- 02 (j): conditions that compare, as bytes, as entry conditions, in the clash test, in the listing and the program, and in a run
pub mod CompareRows
-- ---- selectors, moves, trees
-- A grammar whose symbols have several attributes, with conditions at several positions: its selectors and its scheme
pub mod SchemeRows
-- The walk of a tree, move by move, at every stop, beside its count, what the machine does, and what is drawn in memory
pub mod WalkRows
-- Parts of a tree walked so far, drawn as frames and registers, beside the machine after so many moves; and what selectors find there
pub mod PartRows
-- What is not so: parts, selectors, returns, stretches and schemes that are wrong in one thing
pub mod NegativeRows
-- ---- calls
-- The calls, computed on the grammar of words and tags, on stacks that held something else: record, answer and every cell
pub mod CallRows
-- 34: stacks that fit, and stacks in which one of 01's facts is wrong
pub mod FitRows
-- Refusals of a segment and of the state, 20 to 24, 31 to 33 and 35: number, tokens, record and every cell; and which comes first
pub mod RefusalRows
-- The program of 01's grammar of words and tags, section by section
pub mod ProgramRows
-- The listing, byte for byte: 01's own, a refusal's line, each function and each kind of condition, numbers of several digits and negative ones
pub mod ListingRows
-- The calls as a caller makes them, from the table's bytes: the order of 30, table, 33 and 34, the program area, the stretch of a production
pub mod PublicRows
-- Which refusals an opening, a feed and a finish may answer with
pub mod AnswerRows
-- ---- statements
-- What the statements say and what they exclude: a list of calls, and answers, engines and records that do not meet them
pub mod StatementRows
-- A stretch in its place, and what is not a production's stretch; grammars that do not have the same scheme
pub mod TableStatementRows
-- ---- tokens that carry a value: 02 (e)
-- 02 (e), runs: tokens that carry a value
pub mod TokenRows
-- What the statements on tokens with values say and exclude: lists of one length, values of 32 bits, values ignored, and the tag 6 fields in stretch and program
pub mod TokenStatementRows
-- ---- the inner run: 02 (h)
-- The inner run, computed: an outer run of words and tags stopped after word open (7 registers, 4 places), on 16 registers and 9 places; an inner run over it on the 9 registers and 5 places that are left
pub mod InnerRows
-- What the statements on inner runs say and exclude: an outer run of words and tags stopped after word open, on 16 registers and 9 places, and inner runs over it
pub mod InnerStatementRows
-- ---- windows: 02 (k)
-- Rows for Window: a window of size 3, and the numbers of its answers
pub mod WindowRows
