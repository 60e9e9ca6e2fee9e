-- The answer of the writer of house order as lent numbers

-- An answer of the writer of house order as three numbers: the length, with 0 and 0; or 0, with the refusal's number and offset
pub mod HouseNumbers
