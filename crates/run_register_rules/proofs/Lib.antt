-- Rules evaluated straight into their registers
pub mod Straight
