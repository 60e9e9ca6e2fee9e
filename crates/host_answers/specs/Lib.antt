-- The answer of the writer of house order as lent numbers
pub mod housed
-- The answer of a ranking as lent numbers
pub mod ranked
-- The answer of a check of a sheet as lent numbers
pub mod judged
-- A finish's answer from the three numbers that `segment_finish` hands out, and a window's answer as four
pub mod windows
