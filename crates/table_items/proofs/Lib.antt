-- The rules and conditions of a production, one after the other
pub mod Walking
