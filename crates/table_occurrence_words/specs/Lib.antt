-- What a walk along a right side tells of each symbol, and what it leaves behind
pub mod Placed
