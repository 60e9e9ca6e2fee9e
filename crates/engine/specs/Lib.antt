-- 01's values for the records of the code, and what its calls hand back
pub mod Records
