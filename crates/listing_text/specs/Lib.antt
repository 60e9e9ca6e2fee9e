-- The listing's lines read off the entry tests and the scheme of each production: instruction by instruction, positions counted by the expects passed
pub mod Lines
-- What a cursor means: the lines that are still to come, read off the words step by step
pub mod Cursors
-- What the tests on cursors say, and what they follow from
pub mod Tests
-- Each step of a cursor goes ahead, so there are lines enough: the lines left are those of the next step
pub mod Falling
-- A cursor into the program of a grammar: where it stands in a production's entry tests and scheme, and which lines of the listing are still to come
pub mod Pending
-- A cursor at an instruction: what its word says, and what comes behind it
pub mod Heads
-- The cursor before a production's first line, and which cursors stand inside a production
pub mod Starts
-- In the program of a grammar the lines left at a cursor are those of the listing that are still to come
pub mod Steps
-- What is promised of a line that is handed out, and when which step is due
pub mod LineOut
