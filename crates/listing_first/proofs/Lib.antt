-- What is printed for a table: a refusal's line, or the listing
pub mod Printing
