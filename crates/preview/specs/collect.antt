-- The set of tokens that are let through, one try after the other

-- The set of tokens that are let through, token by token
pub mod Collecting
