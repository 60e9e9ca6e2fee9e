-- What the machine faces: a token of its grammar, with its values, or the end.
use Rattle.std.specs.Prelude.{ℕ, ◌<◌, List, T, ℤ}
use Rattle.std.proofs.Common.{sym, subst}
use Rattle.meaning.specs.Rules.{four_bytes}
use Rattle.theory_answers.specs.ShapeMoves.{IsAhead}
use Rattle.run_moves.specs.declared.Run.{Run}
use Rattle.run_moves.specs.Passing.{coming_of}
use Rattle.run_next_token.specs.Operations.{Running}
use Rattle.run_looking.specs.Judging.{value_at}
use Rattle.run_next_token.specs.Coming.{comes_is, comes_ahead}

pub record Facing (ws : List ℕ) (m : List ℤ) (ps : List ℕ) (run : Run) (u : ℕ) (v : ℤ) : Type 0 where
  pub running : Running ws m ps run
  pub ahead : IsAhead running.grammar (coming_of u v)

-- a token of kind u and value v; 63 is the end
pub facing : {ws : List ℕ} {m : List ℤ} {ps : List ℕ} {run : Run} → Running ws m ps run → (u : ℕ) (v : ℤ) → u < 64 → T (four_bytes v) → Facing ws m ps run u (value_at ws u v)
facing r u v small four =
    let b = r.held.begins in
    record { running = r; ahead = subst (IsAhead r.grammar) (sym (comes_is b u v small four)) (comes_ahead b u v small four) }
