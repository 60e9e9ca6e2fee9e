-- The number of a slot, or of none
pub mod Slots
