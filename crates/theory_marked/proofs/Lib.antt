-- The marked token is the first impossible one: after every list of calls
pub mod Marked
-- The promises at words and tags, with and without its entry condition: 21 and 24 are given where they are due
mod MarkedRows
