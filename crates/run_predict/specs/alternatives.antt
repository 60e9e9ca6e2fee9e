-- The alternative that a predict enters, found by the program's words

-- Predict: the search along the directory and the next-words by the words of the program, and the push of the production found
pub mod Predicting
