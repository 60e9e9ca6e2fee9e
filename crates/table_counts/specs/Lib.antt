-- The header and the counts as they are read
pub mod Counted
-- What a reading of a table found wrong, as a number and an offset; both are 0 where it found nothing
pub mod Refused
