-- Two rising lists of fields, as offsets, merged by the first bytes of their bodies; of equal keys the first stays

-- What a merge promises
pub mod Promises
