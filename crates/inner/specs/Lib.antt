-- 01's values for what the inner calls hand back
pub mod Records
-- The states of an outer and an inner run
pub mod states
-- The engine's calls on the lent cells above an outer run
pub mod stretch
-- The opening of an inner run: the outer table and run, then the inner ones
pub mod opening
