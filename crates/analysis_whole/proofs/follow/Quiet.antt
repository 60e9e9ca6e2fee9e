-- A symbol that changes nothing more: what it would add is there, and it leaves what is handed on as it is.
use Rattle.std.proofs.Common.{ℕ, ◌≡◌, refl, sym, inl, true≢false, eqb→eq, Bool, true, false, cond, List}
use Rattle.std.specs.Prelude.{Option, Some, None, IfSome, eqb}
use Rattle.std.specs.Option.{option_eq}
use Rattle.theory_base.specs.Members.{true→T}
use Rattle.meaning.specs.Grammar.{Symbol}
use Rattle.meaning.specs.Table.{symbol_of}
use Rattle.set_words.specs.Views.{members, sees, turn, fit}
use Rattle.analysis.specs.Tables.{Added}

-- what is added once is there
pub added_again : (t r : List ℕ) (x : Symbol) (add : ℕ) → Added t x add r → Added r x add r
added_again t r x add j = record { size = refl; keeps = λ u b h. h; adds = j.adds; only = λ u b h. inl h }

-- the symbol of byte s is such a one
pub record Still (gone : ℕ → Bool) (first : List ℕ) (rest up : ℕ) (table edges : List ℕ) (s : ℕ) : Type 0 where
  pub there : Added table (symbol_of s) rest table
  pub edged : Added edges (symbol_of s) up edges
  pub turned : (u : ℕ) → members rest u ≡ turn true gone (sees first u) u (symbol_of s) (members rest u)
  pub handed : up ≡ cond (fit false gone (symbol_of s)) up 0

-- it is, if there is one
abbrev pub Quiet : (ℕ → Bool) → List ℕ → Option ℕ → ℕ → ℕ → List ℕ → List ℕ → Type 0
Quiet gone first q rest up table edges = IfSome q (Still gone first rest up table edges)

module _ (gone : ℕ → Bool) (first : List ℕ) where
  -- it is s
  pub quiet_here : (q : Option ℕ) (rest up : ℕ) (table edges : List ℕ) (s : ℕ) → Quiet gone first q rest up table edges → option_eq eqb q (Some s) ≡ true → Still gone first rest up table edges s
  quiet_here None rest up table edges s d e = absurd (true≢false (sym e))
  quiet_here (Some r) rest up table edges s d e = let i : r ≡ s = eqb→eq r s (true→T _ e) in rw i at d

  -- the symbol s was marked, and its sets are the next
  pub quiet_next :
      (s rest next up on : ℕ) (q : Option ℕ) (table₀ table edges₀ edges : List ℕ) → Added table₀ (symbol_of s) rest table → Added edges₀ (symbol_of s) up edges
      → ((u : ℕ) → members next u ≡ turn true gone (sees first u) u (symbol_of s) (members rest u)) → on ≡ cond (fit false gone (symbol_of s)) up 0
      → IfSome q (λ r. (r ≡ s) × (next ≡ rest) × (on ≡ up)) → Quiet gone first q next on table edges
  quiet_next s rest next up on None table₀ table edges₀ edges j k turns hands same = tt
  quiet_next s rest next up on (Some r) table₀ table edges₀ edges j k turns hands same =
      record {
        there = rw (same.0, same.1) (added_again _ _ _ _ j);
        edged = rw (same.0, same.2) (added_again _ _ _ _ k);
        turned = rw (same.0, same.1) (rw same.1 at turns);
        handed = rw (same.0, same.2) (rw same.2 at hands);
      }
