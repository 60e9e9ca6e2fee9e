-- Whether the intervals that are kept of two productions leave some value to each attribute

-- The ways of the test of two productions' intervals
pub mod Laws
