-- The numbers of eight bytes in a sheet's records

-- A signed local holds bits: a value that it holds is read back
pub mod Bits
