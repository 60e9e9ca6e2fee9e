-- The loop over the places, a turn at a time
pub mod Places
-- What std's iterators test of all cells
pub mod Tests
