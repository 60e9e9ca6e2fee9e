-- What the listing call hands back, by its cases
pub mod Listing
-- The numbers of a stretch by the cases of its span
pub mod Stretching
