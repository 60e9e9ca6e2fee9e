-- A stack in memory, the bottom at index 0: what is read and written at a place counted from the top, and what growing and shrinking leave
pub mod Stack
-- The rules and conditions that a program's words say, and what they ask of the registers that stand
pub mod Read
-- The operands of a rule by its words: where a selector is 0, the constant stands for the operand
pub mod Operand
-- A stack that lies in lent memory with all above it clear, and what each change to memory makes of it
pub mod Laid
-- What a caller shows, and learns, whose register stack is laid in memory and whose rules or conditions stand in the program
pub mod Moves
-- Rows: rules and conditions from their words, on a small stack
pub mod Examples
