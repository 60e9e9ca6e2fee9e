-- The meaning of the code's answers
pub mod Answers
