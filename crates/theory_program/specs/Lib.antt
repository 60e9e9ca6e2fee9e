-- Words that stand in a list from an address on
pub mod WordsStand
-- The parts of the program's words, by / and %: the one account of how a word is taken apart
pub mod Parts
-- Instructions, rules and conditions as words that stand in a list: what the first word says, and where the others stand
pub mod Code
-- Where everything stands in a list that begins with the program: the words on the whole segment, the directory, the records, what places wait at, the bodies
pub mod Addresses
-- Rules for one symbol set different attributes, so there are at most as many as it has attributes
pub mod RuleCounts
-- What the instructions of a well-formed grammar's schemes hold: selectors from 1 to 127, constants in 32 bits, counts that are small
pub mod Proper
-- Words taken apart: a rule's two words and a condition's three give the rule and the condition back
pub mod Unpacked
-- A token set as two words: bit u of the first is token u, bit u of the second is token 32 + u
pub mod SetWords
-- The search along the program's words finds the production that the machine predicts: the directory and the next-words lead through the productions of a nonterminal in their order
pub mod Search
-- The words on the whole segment and those of a production's record, one by one
pub mod Records
-- A place, and the code from which its production goes on
pub mod Resuming
-- How long the program of a well-formed grammar gets
pub mod Sizes
-- The word that says what a place waits at, taken apart
pub mod Waits
-- Every word of a well-formed grammar's program is a 32-bit number
pub mod SmallWords
-- Addresses, words taken apart and searches in the program of 01's grammar of words and tags
pub mod AddressRows
-- What the program says: two well-formed grammars with the same words have the same right sides with their counts, translation scheme, sets and entry tests
pub mod Telling
