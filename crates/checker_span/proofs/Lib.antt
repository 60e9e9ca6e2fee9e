-- A span by its cases
pub mod Cases
