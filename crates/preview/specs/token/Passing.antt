-- A token that is let through, by what its try ended with.
use Rattle.std.specs.Prelude.{ℕ, ◌≡◌, Bool, true, false, List, [], ◌∷◌, ℤ, Ok, Err}
use Rattle.std.proofs.Common.{sym, ap, ◌∙◌}
use Rattle.meaning.specs.Grammar.{Grammar, leaves}
use Rattle.meaning.specs.Machine.{Config, Lent, Settled, stopped, failed, feed_all}
use Rattle.meaning.specs.Calls.{tokens_from}
use Rattle.run_moves.specs.declared.Run.{Run}
use Rattle.run_moves.specs.Held.{Held}
use Rattle.run_machine.specs.declared.Failed.{Failed}
use Rattle.run_machine.specs.Advancing.{Ended, Settles}
use Rattle.preview.specs.scratch.Scratch.{TriedAs}

abbrev pub is_stopped : Settled → Bool
is_stopped (stopped c) = true
is_stopped (failed c k) = false

-- a token of kind t and value v is let through
abbrev pub lets_through : Grammar → Lent → Config → ℤ → ℕ → Bool
lets_through g lent c v t = is_stopped (feed_all g lent (leaves g (tokens_from (t ∷ []) (v ∷ []))) c)

-- whatever configuration is held
pub record PassesAs (ws : List ℕ) (k : ℕ) (v : ℤ) (vs : List ℤ) (ps : List ℕ) (run : Run) (b : Bool) : Type 0 where
  pub from : (g : Grammar) (lent : Lent) (c : Config) → Held g ws lent vs ps run c → b ≡ lets_through g lent c v k

module _ {ws : List ℕ} {k : ℕ} {v : ℤ} {vs : List ℤ} {ps : List ℕ} {run : Run} {e : Ended} (t : TriedAs ws k v vs ps run e) where
  abbrev stops : Ended → Bool
  stops (Ok r) = true
  stops (Err f) = false

  by_settled : (g : Grammar) (lent : Lent) (o : Settled) (x : Ended) → Settles g ws lent o t.registers t.places x → stops x ≡ is_stopped o
  by_settled g lent o (Ok r) s = ap is_stopped (sym s.1)
  by_settled g lent o (Err f) s = ap is_stopped (sym s.1)

  passes_by : (b : Bool) → stops e ≡ b → PassesAs ws k v vs ps run b
  passes_by b q = record { from = λ g lent c h. sym q ∙ by_settled g lent (feed_all g lent (leaves g (tokens_from (k ∷ []) (v ∷ []))) c) e (t.fed g lent c h) }

  pub passes_stopped : (r : Run) → e ≡ Ok r → PassesAs ws k v vs ps run true
  passes_stopped r q = passes_by true (ap stops q)

  pub passes_failed : (f : Failed) → e ≡ Err f → PassesAs ws k v vs ps run false
  passes_failed f q = passes_by false (ap stops q)
