-- The fields of a table by their offsets, and their keys: the first bytes of their bodies, compared as unsigned bytes

-- What comparing two keys promises
pub mod Promises
