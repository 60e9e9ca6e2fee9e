-- The matrix of a list of entry conditions, which has 81 entries; the one at i * 9 + j says that node i's value is at most node j's plus the entry

-- Laws for the proofs of the functions: bits of signed locals, the filling of the matrix, and the loops of the elimination
pub mod Laws
