-- Whether a token is let through

-- A token that is let through, by what its try ended with
pub mod Passing
-- A token that is not expected is refused by the first move that looks at it
pub mod Unexpected
