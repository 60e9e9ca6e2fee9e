-- A node's own record in a sheet

-- A node's own record, and what is told of it
pub mod Heads
-- What each way out of the reading of a record shows
pub mod Laws
