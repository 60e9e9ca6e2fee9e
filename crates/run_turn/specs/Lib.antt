-- The stages of a turn: what each leads to, perhaps to nothing, and what all lead to one after the other
pub mod Stages
-- The predict of an alternative without entry tests, and the read of the token where it comes next: the place is written once for both
pub mod entering
