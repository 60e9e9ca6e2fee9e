-- A token tried on scratch cells: the caller's cells are only read

-- Scratch cells: what stands in the caller's cells is copied to cleared ones, a token is tried there, and what the moves reached is cleared again
pub mod Scratch
