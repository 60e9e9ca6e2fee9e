-- 33, 40 and 34, and the calls once they are judged
pub mod Judging
-- A feed and a finish, from the judgement of 33 and 34 to what is left
pub mod Performing
-- A feed and a finish on stacks of any length are those on the lent cells, with the cells past them as they were
pub mod Cutting
