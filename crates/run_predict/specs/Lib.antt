-- What a predict leaves: the place of the production found by the search is pushed, or the number refuses it
pub mod Entering
-- The alternative that a predict enters, found by the program's words
pub mod alternatives
