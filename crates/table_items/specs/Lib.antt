-- Where the reader stands between two fields of a production
pub mod Progress
