-- The whole of what is written
pub mod Writing
