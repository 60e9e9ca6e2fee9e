-- Stretches of cells: all marked, all with values, all zero

-- Tests of cells by their bits: gathered over the cells, none where all pass
pub mod Gathering
