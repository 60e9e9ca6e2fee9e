-- The program of a grammar written, and nothing behind it
pub mod Building
