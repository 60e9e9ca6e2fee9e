-- A finish's answer from the three numbers that `segment_finish` hands out, and a window's answer as four

-- A window's answer and a finish's answer as the numbers that a host lends
pub mod Windows
