-- The engine's calls on the lent cells above an outer run

-- The stretch as the cells that are lent on, and the calls on it
pub mod Lending
