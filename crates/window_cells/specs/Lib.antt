-- Signed cells read back from their bits, and their order
pub mod Signed
