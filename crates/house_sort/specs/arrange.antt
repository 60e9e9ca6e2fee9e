-- Fields of a table put in order by the first bytes of their bodies, as offsets; of equal keys the first stays

-- What collecting and gathering promise
pub mod Promises
