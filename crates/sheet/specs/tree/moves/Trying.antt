-- One move on memory, or the number that refuses it: the machine's.
use Rattle.std.specs.Prelude.{ℕ, ◌≡◌, List, ℤ, Ok, Err}
use Rattle.std.proofs.Common.{sym, subst₂}
use Rattle.meaning.specs.Grammar.{Grammar}
use Rattle.meaning.specs.Machine.{Config, Lent, Coming, moved, blocked, next}
use Rattle.theory_answers.specs.ShapeMoves.{IsAhead}
use Rattle.run_moves.specs.declared.Run.{Run}
use Rattle.refusals.specs.declared.Refusal.{Refusal}
use Rattle.refusals.specs.Numbers.{refusal_number}
use Rattle.run_machine.specs.Advancing.{Ended}
use Rattle.run_moves.specs.Held.{Held, Answers}

-- what is answered for the configuration c held at entry, in memory m and ps afterwards
abbrev pub Tried : Grammar → List ℕ → Lent → Coming → Config → List ℤ → List ℕ → Ended → Type 0
Tried g ws lent l c m ps (Ok run) = (d : Config) × (next g lent l c ≡ moved d) × Held g ws lent m ps run d
Tried g ws lent l c m ps (Err f) = (next g lent l c ≡ blocked (refusal_number f.refusal)) × Held g ws lent m ps f.run c

abbrev pub Tries : List ℕ → List ℤ → List ℕ → Run → Coming → List ℤ → List ℕ → Ended → Type 0
Tries ws m₀ ps₀ run₀ l m ps e = (g : Grammar) (lent : Lent) (c : Config) → Held g ws lent m₀ ps₀ run₀ c → IsAhead g l → Tried g ws lent l c m ps e

module _ {ws : List ℕ} {m₀ : List ℤ} {ps₀ : List ℕ} {run₀ : Run} (l : Coming) (m : List ℤ) (ps : List ℕ) where
  pub tried_moved : (run : Run) → Answers ws m₀ ps₀ run₀ l m ps (Ok run) → Tries ws m₀ ps₀ run₀ l m ps (Ok run)
  tried_moved run a g lent c h ok = a g lent c h ok

  pub tried_blocked : (k : Refusal) → Answers ws m₀ ps₀ run₀ l m ps (Err k) → Tries ws m₀ ps₀ run₀ l m ps (Err (record { run = run₀; refusal = k }))
  tried_blocked k a g lent c h ok = let s = a g lent c h ok in (s.0, subst₂ (λ x y. Held g ws lent x y run₀ c) (sym s.1) (sym s.2) h)
