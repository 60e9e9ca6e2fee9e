-- 02's numbers for the writer's answers
pub mod Answers
