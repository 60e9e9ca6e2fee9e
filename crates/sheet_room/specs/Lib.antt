-- 41, or 0 where a sheet has room
pub mod Room
