-- Entries read from cells, and what the code asks of a list of them
pub mod Entries
-- `before` is an order: of two one at most comes before the other, and of two with different numbers one does
pub mod Ordering
-- The ranking is the one sorted list with each entry exactly once
pub mod Sorting
-- Entries and their cells
pub mod Cells
-- A list that holds the ranking of the candidates so far, and one more of them
pub mod Listing
-- 02's words for the ranking: each candidate once, who stands in front of whom, and a report that the order leaves as it was
pub mod Report
-- For the caller who brings candidates one by one: what holds of one more, and the report read from the list
pub mod Caller
-- What the search for a place promises
pub mod Places
