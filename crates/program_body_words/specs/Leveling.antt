-- The loop that finds the levels.
use Rattle.std.specs.Prelude.{ℕ, suc, ◌+◌, ◌≤◌, ◌<◌, ◌≡◌, refl, List, length, set, get_or, replicate}
use Rattle.std.proofs.Math.Decide.{ℕ_discrete}
use Rattle.std.proofs.Common.{arith, sym, ap, ap₂, ◌∙◌, get_or-set_same, get_or-set_other}
use Rattle.meaning.specs.Limits.{positions_limit, symbols_limit}
use Rattle.meaning.specs.Grammar.{Grammar, Production}
use Rattle.meaning.specs.Scheme.{syn_between}
use Rattle.meaning.specs.Table.{byte}
use Rattle.theory_base.specs.Selectors.{syn_none, syn_more}
use Rattle.program_body_words.specs.Levels.{level, Leveled}
use Rattle.outline.specs.Counts.{count_at_value, synthesized_at}
use Rattle.program_body_words.specs.OfProduction.{OfProduction, right_of, Carried, inherited_at, synthesized_at_lem}

module _ {row fields inherited synthesized : List ℕ} (x : OfProduction row fields inherited synthesized) (carrying : ℕ) (carried : Carried carrying x.grammar) where
  -- the levels of the first k positions are found
  pub record LevelsGo (k sum : ℕ) (levels : List ℕ) : Type 0 where
    pub summed : sum ≡ syn_between x.grammar x.production 0 k
    pub each : (i : ℕ) → i ≤ k → get_or levels i 0 ≡ level x.grammar x.production i

  pub levels_start : LevelsGo 0 0 (replicate positions_limit 0)
  levels_start = record { summed = sym (syn_none x.grammar x.production 0); each = λ i l. first i (omega arith) }
    where
      first : (i : ℕ) → i ≡ 0 → get_or (replicate positions_limit 0) i 0 ≡ level x.grammar x.production i
      first i e = rw e refl

  pub levels_turn : {k sum : ℕ} {levels : List ℕ} {b s i : ℕ} → LevelsGo k sum levels → k < length (right_of x) → k + 1 < length levels → b ≡ byte row (k + 2) → s ≡ synthesized_at carrying synthesized b → i ≡ count_at_value inherited b → LevelsGo (k + 1) (sum + s) (set levels (k + 1) (sum + s + i))
  levels_turn {k} {sum} {levels} {b} {s} {i} d l m eb es ei = record { summed = total_is; each = λ j h. go j h (ℕ_discrete j (k + 1)) }
    where
      g : Grammar
      g = x.grammar

      p : Production
      p = x.production

      e : k + 1 ≡ suc k
      e = omega arith

      total_is : sum + s ≡ syn_between g p 0 (k + 1)
      total_is = rw e (omega (arith, d.summed, es ∙ (ap (synthesized_at carrying synthesized) eb ∙ synthesized_at_lem x carrying carried k l), syn_more g p 0 k (omega arith) l))

      here : sum + s + i ≡ level g p (suc k)
      here = ap₂ (λ y z. y + z) (total_is ∙ ap (λ z. syn_between g p 0 z) e) (ei ∙ (ap (count_at_value inherited) eb ∙ inherited_at x k l))

      go : (j : ℕ) → j ≤ k + 1 → Dec (j ≡ k + 1) → get_or (set levels (k + 1) (sum + s + i)) j 0 ≡ level g p j
      go j h (yes q) = rw q (get_or-set_same levels (k + 1) (sum + s + i) 0 m ∙ (here ∙ ap (level g p) (sym e)))
      go j h (no n) = get_or-set_other levels (k + 1) j (sum + s + i) 0 n ∙ d.each j (omega arith)

  pub levels_end : {k sum : ℕ} {levels : List ℕ} → LevelsGo k sum levels → length (right_of x) ≤ k → Leveled x.grammar x.production levels
  levels_end d l i h = d.each i (omega arith)

pub row_short : {row fields inherited synthesized : List ℕ} (x : OfProduction row fields inherited synthesized) (n : ℕ) → n ≡ byte row 1 → n ≤ symbols_limit
row_short x n e = omega (arith, e, x.size, x.of_grammar.short)
