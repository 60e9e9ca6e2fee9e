-- Where the reader stands between two productions
pub mod Productions
-- The words of the right sides of the productions read so far
pub mod Rights
