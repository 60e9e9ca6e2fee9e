-- An answer that the moves do not give, by the row `not_by` of specs/StatementRows
mod StatementRows
