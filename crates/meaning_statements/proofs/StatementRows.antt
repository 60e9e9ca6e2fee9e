-- An answer that the moves do not give, by the row `not_by` of specs/StatementRows.
use Rattle.std.specs.Prelude.{refl, [], ◌∷◌}
use Rattle.std.proofs.Common.{arith}
use Rattle.meaning.specs.Calls.{refused}
use Rattle.meaning_statements.specs.StatementRows.{feed_kinds, fresh, Answered, not_by}

-- token 3 of 0 to 2, where the move is blocked by 21, is not refused by 22
not_22 : Answered (fresh 5 9) (feed_kinds (3 ∷ [])) (refused 22 5)
not_22 = not_by (fresh 5 9) 3 21 22 5 refl refl (λ q n. omega arith) (λ q n f. omega arith) (λ q n f. omega arith)
