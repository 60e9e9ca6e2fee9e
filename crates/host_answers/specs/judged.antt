-- The answer of a check of a sheet as lent numbers

-- The answer of a check of a sheet as the numbers that a host lends
pub mod JudgeLent
