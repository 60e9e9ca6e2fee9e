-- What it says of two words that a test finds them equal, or not
pub mod Same
