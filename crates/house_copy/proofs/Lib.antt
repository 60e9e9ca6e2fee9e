-- The planned fields written one after the other
pub mod Writing
