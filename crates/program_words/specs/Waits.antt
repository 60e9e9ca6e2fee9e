-- What the places of the productions wait at, one production after the other.
use Prim.Native.Nat.{ℕ, suc, ◌+◌, ◌*◌, ◌≤◌, ◌<◌}
use native.Mathlib.Omega.{arith}
use Rattle.std.specs.Prelude.{◌≡◌, List, [], ◌∷◌, ◌++◌, map, length}
use Rattle.std.proofs.Common.{sym, ◌∙◌, drop_of_length-le, drop-cons}
use Rattle.std.proofs.Math.Path.{ap}
use Rattle.std.proofs.Math.ListN.{drop}
use Rattle.meaning.specs.Limits.{symbols_limit}
use Rattle.meaning.specs.Grammar.{Grammar, whole_production, production_at}
use Rattle.meaning.specs.Rules.{WellFormed}
use Rattle.meaning.specs.Program.{concat, wait_row, waits_address}
use Rattle.theory_base.specs.WellFormed.{listed_at}

-- where those of production p begin
abbrev pub wait_at : Grammar → ℕ → ℕ
wait_at g p = waits_address g + symbols_limit * p

-- the same by how many nonterminals and productions there are
abbrev pub wait_from : ℕ → ℕ → ℕ → ℕ
wait_from nonterminals productions p = 9 + 64 * nonterminals + 8 * productions + symbols_limit * p

-- those of the productions from p on
unfoldable pub rest_waits : Grammar → ℕ → List ℕ
rest_waits g p = concat (map (wait_row g) (drop p g.productions))

module _ (g : Grammar) (w : WellFormed g) (p : ℕ) where
  pub waits_turn : p < length g.productions → rest_waits g p ≡ wait_row g (production_at g p) ++ rest_waits g (p + 1)
  unfolding rest_waits
  waits_turn l =
      let s : suc p ≡ p + 1 = omega arith in
      ap (λ ps. concat (map (wait_row g) ps)) (drop-cons g.productions p (whole_production g) l ∙ ap (λ q. q ∷ drop (suc p) g.productions) (sym (listed_at g w p l)))
      ∙ ap (λ z. wait_row g (production_at g p) ++ concat (map (wait_row g) (drop z g.productions))) s

  pub waits_end : length g.productions ≤ p → rest_waits g p ≡ []
  unfolding rest_waits
  waits_end l = ap (λ ps. concat (map (wait_row g) ps)) (drop_of_length-le g.productions {i = p} l)
