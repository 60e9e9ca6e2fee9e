-- The stacks of a candidate of 02 (b) opened afresh, and what it leaves

-- Stacks of which all but the first cells are clear, and what is known of them after a candidate
pub mod Opening
