-- What is read once the last production is over is the outline of the table
pub mod Outlining
-- The whole table, from its header on, and from its counts on
pub mod Tables
