-- The fields of a table by their offsets, and their keys: the first bytes of their bodies, compared as unsigned bytes
pub mod keys
-- Two rising lists of fields, as offsets, merged by the first bytes of their bodies; of equal keys the first stays
pub mod merge
-- Fields of a table put in order by the first bytes of their bodies, as offsets; of equal keys the first stays
pub mod arrange
