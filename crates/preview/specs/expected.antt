-- Whether a token is expected where a run stands: the program's words tell it without a try

-- What the word at hand says of a token before any try
pub mod Expected
