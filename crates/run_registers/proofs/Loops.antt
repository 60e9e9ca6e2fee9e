-- The loops, a turn at a time.
use Prim.Native.Nat.{ℕ, zero, suc, ◌+◌, ◌-◌, ◌*◌, ◌≤◌, ◌<◌}
use native.Mathlib.Omega.{arith}
use mathlib.Core.Path.{◌≡◌, refl, sym, ap, ◌∙◌, subst}
use mathlib.Core.List.{List, [], ◌∷◌}
use lib.ListN.{length, get_or, set, drop, length-drop}
use lib.Seq.{drop-cons}
use lib.IntN.{ℤ}
use mathlib.Core.Logic.{inl, inr}
use Rattle.meaning.specs.Rules.{Operands, Reads}
use Rattle.meaning.specs.Calls.{lay}
use Rattle.theory_program.specs.WordsStand.{stands_within}
use Rattle.theory_program.specs.Code.{RulesAt, rule_first_lem, rules_length}
use Rattle.run_registers.specs.Stack.{lay_pop}
use Rattle.run_registers.specs.Read.{rule_here, rules_from, condition_here, conditions_from, SelectorStands, Valued, Tests, Evaluates}
use Rattle.run_registers.specs.Operand.{Applies}

-- one more cell of a stack of h is cleared
pub clear_turn : {A : Type 0} (clear : A) (h i : ℕ) (xs mem : List A) → length xs ≡ h → i < h → set (lay h clear (drop i xs) mem) (h - (i + 1)) clear ≡ lay h clear (drop (i + 1) xs) mem
clear_turn clear h i xs mem e l =
    let s : i + 1 ≡ suc i = omega arith in
    let k : length (drop (suc i) xs) ≡ h - suc i = length-drop (suc i) xs ∙ omega arith in
    rw (s, drop-cons xs i clear (omega arith), ← k) (sym (lay_pop h clear (get_or xs i clear) (drop (suc i) xs) mem (omega arith)))

-- ---- conditions: i of n are done, and p is where the next one stands

module _ (ws : List ℕ) (p n i : ℕ) where
  pub conditions_turn : i < n → conditions_from ws p (n - i) ≡ (condition_here ws p) ∷ conditions_from ws (p + 3) (n - (i + 1))
  unfolding conditions_from
  conditions_turn l =
      let e : n - i ≡ suc (n - (i + 1)) = omega arith in
      rw e

  pub conditions_end : n ≤ i → conditions_from ws p (n - i) ≡ []
  unfolding conditions_from
  conditions_end l =
      let e : n - i ≡ 0 = omega arith in
      rw e

  pub reads_turn : (rs : List ℤ) → i < n → Tests ws p (n - i) rs → Reads (Valued rs) (condition_here ws p)
  reads_turn rs l t = t.reads (condition_here ws p) (rw (conditions_turn l) (inl refl))

  pub tests_turn : (rs : List ℤ) → i < n → Tests ws p (n - i) rs → Tests ws (p + 3) (n - (i + 1)) rs
  tests_turn rs l t = record { inside = omega (arith, t.inside); reads = λ c m. t.reads c (rw (conditions_turn l) (inr m)) }

-- ---- rules likewise

rules_counted : (ws : List ℕ) (p n : ℕ) → length (rules_from ws p n) ≡ n
unfolding rules_from
rules_counted ws p zero = refl
rules_counted ws p (suc n) = ap suc (rules_counted ws (p + 2) n)

pub rules_inside : {ws : List ℕ} {p n : ℕ} {rs : List ℤ} → Evaluates ws p n rs → p + 2 * n ≤ length ws
rules_inside {ws} {p} {n} v = omega (arith, stands_within v.words.words, rules_length (rules_from ws p n), rules_counted ws p n)

module _ (ws : List ℕ) (p n i : ℕ) where
  pub rules_turn : i < n → rules_from ws p (n - i) ≡ (rule_here ws p) ∷ rules_from ws (p + 2) (n - (i + 1))
  unfolding rules_from
  rules_turn l =
      let e : n - i ≡ suc (n - (i + 1)) = omega arith in
      rw e

  pub rules_end : n ≤ i → rules_from ws p (n - i) ≡ []
  unfolding rules_from
  rules_end l =
      let e : n - i ≡ 0 = omega arith in
      rw e

  module _ (rs : List ℤ) (l : i < n) (v : Evaluates ws p (n - i) rs) where
    words_here : RulesAt ws p ((rule_here ws p) ∷ rules_from ws (p + 2) (n - (i + 1)))
    words_here = subst (λ qs. RulesAt ws p qs) (rules_turn l) v.words

    handled : SelectorStands rs (rule_here ws p).target × Operands (Valued rs) (rule_here ws p).function
    handled = v.handles (rule_here ws p) (rw (rules_turn l) (inl refl))

    pub target_turn : SelectorStands rs (rule_here ws p).target
    target_turn = handled.0

    pub applies_turn : Applies rs (get_or ws p 0) (get_or ws (p + 1) 0)
    applies_turn = record { written = (rule_first_lem words_here).0; operands = handled.1 }

    pub evaluates_turn : Evaluates ws (p + 2) (n - (i + 1)) rs
    evaluates_turn = record { words = (rule_first_lem words_here).2; handles = λ r m. v.handles r (rw (rules_turn l) (inr m)) }
