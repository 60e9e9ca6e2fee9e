-- Where the registers end that a place tells, from the bottom up

-- Registers passed from the bottom up, a stretch at a time
pub mod Passing
