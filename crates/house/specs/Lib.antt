-- What the writer asks and promises of a table that is accepted
pub mod Answers
