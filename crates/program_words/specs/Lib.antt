-- The fields of one production: its row, where its rules and conditions stand in the table, and what the outline says of both
pub mod Fields
-- The directory: zeros, then what is said of each production at the tokens of its set, the last production first, so that the first one stays
pub mod Directory
-- The records and the bodies, one production after the other
pub mod Records
-- What the places of the productions wait at, one production after the other
pub mod Waits
-- What the builder's functions ask and leave
pub mod Built
-- One production has at most 104 rules, 8 for each of 13 positions, and 512 conditions; each takes eight bytes of the table
pub mod Most
-- What the builder's functions write, by the definitions of specs/
pub mod Laws
-- The loops over the productions: the directory, then the records and bodies
pub mod Sections
-- For each production the next one with the same left side, from the last production on
pub mod Nexts
