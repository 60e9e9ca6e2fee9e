-- How what comes next is judged before its moves, which operations look at it, and the value that a token brings
pub mod Judging
-- How what comes next is judged, and which operations look at it
pub mod LookExamples
