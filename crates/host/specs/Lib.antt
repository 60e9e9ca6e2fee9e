-- What the host's calls pass on
pub mod Passed
-- What the listing call hands back: the bytes, how many of them the page has, whether that is all, and the program area
pub mod Listed
-- What the writer of house order passes on, in lent numbers
pub mod Housed
-- What an inner call hands back as numbers, by what it answers and leaves
pub mod Both
-- What a finish hands out as numbers is brought to a window as its answer
pub mod Finished
-- The set of the tokens that may come, or what turns the call back, as numbers
pub mod may_numbers
