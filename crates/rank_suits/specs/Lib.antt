-- 37: more than 512 candidates, lengths that do not add up, a list with too few entries
pub mod Suiting
