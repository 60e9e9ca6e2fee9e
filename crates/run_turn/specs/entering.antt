-- The predict of an alternative without entry tests, and the read of the token where it comes next: the place is written once for both

-- What a predict of an alternative without entry tests leads to: the place of the alternative, and where the token's read comes next, that place with the token passed
pub mod Predicting
