-- What the outline of an accepted table says of its productions, and what the call answers
pub mod Answering
