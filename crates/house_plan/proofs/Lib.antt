-- The plan as the code makes it, production by production
pub mod Planning
