-- Where the registers end that a place tells, from the bottom up

-- A stretch of registers, its cells tested
pub mod Laws
