-- The answer of the call that writes a tree's sheet, as the numbers that a host lends
pub mod SheetLent
