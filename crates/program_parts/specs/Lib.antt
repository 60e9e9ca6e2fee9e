-- Rules or conditions: as a test, and how many words each takes
pub mod Items
