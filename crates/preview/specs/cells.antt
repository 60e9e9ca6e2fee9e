-- A preview on cells of any length, under a grammar whose program is at hand

-- What a preview answers, with the cells past the lent ones
pub mod Answering
