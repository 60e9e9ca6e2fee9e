-- What the plan of a production and of a table asks and promises
pub mod Plans
