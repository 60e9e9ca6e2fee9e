-- Words written over a part of an area
pub mod Patching
