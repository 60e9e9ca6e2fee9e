-- Loops that write counts and rows
pub mod Placing
