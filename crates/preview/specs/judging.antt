-- What turns a preview and the set back

-- 33, 40, 34 and 39 as one number, and what is done by it
pub mod Judging
