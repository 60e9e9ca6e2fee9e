-- A token set as a word: token t is in it where bit t is 1
pub mod SetBits
