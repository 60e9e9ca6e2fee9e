-- The tag 6 fields, one after the other, and the set of the terminals that they name
pub mod Carrying
