-- What the answers for the root of a sheet show, under an accepted table
pub mod Answers
