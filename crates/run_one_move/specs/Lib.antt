-- What the machine faces: a token of its grammar, with its values, or the end
pub mod Facing
