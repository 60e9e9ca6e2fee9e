-- The numbers that 01 and 02 give to the refusals
pub mod Numbers
