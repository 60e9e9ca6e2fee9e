-- What is made on the lent cells, with the cells past them as they were
pub mod Cutting
