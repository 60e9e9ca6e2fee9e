-- The set of the tokens that may come, or what turns the call back, as numbers

-- The set's answer as the numbers that a host lends: the set as a word, number and count of what turns the call back, or 0 and 0
pub mod Previewed
