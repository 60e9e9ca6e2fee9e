-- What the inner functions of the check need and answer
pub mod Parts
-- The cells of the slots and of the leaders, as the code cuts them out of a buffer of size n
pub mod Cut
-- One turn of the walk from the newest value, and its end
pub mod Turns
-- What the check answers
pub mod Checks
-- One turn of the walk, by its four tests
pub mod Turning
-- The test of the values by the walk from the newest, over the cells: the leader cells are matched from the last one
pub mod Walking
-- What the walk has gathered, from its start over each turn to its end
pub mod Gathering
-- The tests of a buffer, in their order
pub mod Checking
