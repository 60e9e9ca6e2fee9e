-- Rules and conditions that nothing is wrong with, and a walk past them
pub mod Sound
