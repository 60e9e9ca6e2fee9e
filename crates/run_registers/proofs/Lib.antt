-- The loops, a turn at a time
pub mod Loops
