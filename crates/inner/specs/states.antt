-- The states of an outer and an inner run

-- 01's numbers and values for what the inner calls hand back, and what the code makes of states
pub mod Records
