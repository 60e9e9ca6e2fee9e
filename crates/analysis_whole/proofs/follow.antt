-- FOLLOW: what comes after a nonterminal from the rest of a right side, then along the edges from the tails of right sides to left sides

-- A symbol that changes nothing more: what it would add is there, and it leaves what is handed on as it is
pub mod Quiet
