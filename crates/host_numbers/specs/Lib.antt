-- A run's record and answer as the numbers that a host lends
pub mod Lent
