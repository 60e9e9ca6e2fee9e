-- A preview on exactly the lent cells

-- What a preview answers, by what was tried on exactly the lent cells
pub mod Answering
