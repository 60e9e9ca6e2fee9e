-- Spans of a table, and the part of it that each is
pub mod Spans
