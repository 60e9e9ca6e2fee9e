-- The tag 6 fields as they are read: the terminals that they name, and the word that holds these
pub mod Named
