-- From the reader's answer to the answer on the table
pub mod Answers
-- The cases of a table judged, and what each means for the public calls
pub mod Cases
