-- Bits of a number, each as a quotient and a remainder.
-- Bit t of n is n / 2 ^ t % 2: of a union and a meet, of a power of two, and of a half
pub mod Bits
