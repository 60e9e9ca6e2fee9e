-- What the analyses say, over the rows of an image
pub mod Views
-- A word that grows, production by production, until nothing changes
pub mod Growth
-- The steps of reaching
pub mod Reaching
