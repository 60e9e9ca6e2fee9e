-- Occurrences of attributes as bits: bit a of the word at a position stands for attribute a there
pub mod OccurrenceBits
