-- The cases of a program made of a table
pub mod Cases
-- The cases of what a call begins with
pub mod Beginning
