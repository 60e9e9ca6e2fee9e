-- A table whose plan is known, written
pub mod Finishing
-- An accepted table is ready to be written, and what the writer answers
pub mod Answering
