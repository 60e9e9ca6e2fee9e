-- The rules and conditions that a program's words say, and what they ask of the registers that stand.
use Rattle.std.specs.Prelude.{ℕ, zero, suc, ◌+◌, ◌*◌, ◌≤◌, ◌≡◌, refl, Bool, true, false, List, [], ◌∷◌, length, get_or, T, ℤ}
use Rattle.std.proofs.Common.{arith, sym, ap₂, subst, inl, inr}
use Rattle.meaning.specs.Base.{In, all}
use Rattle.meaning.specs.Grammar.{Rule, Condition}
use Rattle.meaning.specs.Rules.{Operands, Reads}
use Rattle.meaning.specs.Value.{apply, in_range, mark}
use Rattle.meaning.specs.Machine.{read_register, write_all}
use Rattle.meaning.specs.Calls.{lay}
use Rattle.theory_program.specs.WordsStand.{stands_within}
use Rattle.theory_program.specs.Code.{RulesAt, ConditionsAt, rule_first_lem, condition_first_lem, conditions_length}
use Rattle.theory_program.specs.Proper.{ProperRule, ProperCondition}
use Rattle.theory_program.specs.Unpacked.{rule_from, condition_from, rule_at, condition_at}
use Rattle.run_registers.specs.Stack.{stack}

-- ---- n rules, or conditions, from an address on

abbrev pub rule_here : List ℕ → ℕ → Rule ℕ
rule_here ws a = rule_from (get_or ws a 0) (get_or ws (a + 1) 0)

unfoldable pub rules_from : List ℕ → ℕ → ℕ → List (Rule ℕ)
rules_from ws a zero = []
rules_from ws a (suc n) = rule_here ws a ∷ rules_from ws (a + 2) n

abbrev pub condition_here : List ℕ → ℕ → Condition ℕ
condition_here ws a = condition_from (get_or ws a 0) (get_or ws (a + 1) 0) (get_or ws (a + 2) 0)

unfoldable pub conditions_from : List ℕ → ℕ → ℕ → List (Condition ℕ)
conditions_from ws a zero = []
conditions_from ws a (suc n) = condition_here ws a ∷ conditions_from ws (a + 3) n

-- they are those that stand there
pub rules_read : {ws : List ℕ} {a : ℕ} (rules : List (Rule ℕ)) → RulesAt ws a rules → ((r : Rule ℕ) → In r rules → ProperRule r) → rules_from ws a (length rules) ≡ rules
unfolding rules_from
rules_read [] s p = refl
rules_read {ws = ws} {a = a} (r ∷ rules) s p = ap₂ (λ x xs. x ∷ xs) (rule_at s (p r (inl refl))) (rules_read {ws = ws} {a = a + 2} rules (rule_first_lem s).2 (λ q i. p q (inr i)))

pub conditions_read : {ws : List ℕ} {a : ℕ} (cs : List (Condition ℕ)) → ConditionsAt ws a cs → ((c : Condition ℕ) → In c cs → ProperCondition c) → conditions_from ws a (length cs) ≡ cs
unfolding conditions_from
conditions_read [] s p = refl
conditions_read {ws = ws} {a = a} (c ∷ cs) s p = ap₂ (λ x xs. x ∷ xs) (condition_at s (p c (inl refl))) (conditions_read {ws = ws} {a = a + 3} cs (condition_first_lem s).3 (λ q i. p q (inr i)))

-- ---- registers that stand, and that hold a value

abbrev pub SelectorStands : List ℤ → ℕ → Type 0
SelectorStands rs k = (1 ≤ k) × (k ≤ length rs)

abbrev pub Valued : List ℤ → ℕ → Type 0
Valued rs k = (1 ≤ k) × (k ≤ length rs) × T (in_range (read_register rs k))

-- n conditions from an address on can be tested on rs
pub record Tests (ws : List ℕ) (a n : ℕ) (rs : List ℤ) : Type 0 where
  pub inside : a + 3 * n ≤ length ws
  pub reads : (c : Condition ℕ) → In c (conditions_from ws a n) → Reads (Valued rs) c

pub tests : {ws : List ℕ} {a : ℕ} (cs : List (Condition ℕ)) (rs : List ℤ) → ConditionsAt ws a cs → ((c : Condition ℕ) → In c cs → ProperCondition c) → ((c : Condition ℕ) → In c cs → Reads (Valued rs) c) → Tests ws a (length cs) rs
tests {ws} {a} cs rs s p v =
    record {
      inside = omega (arith, stands_within s.words, conditions_length cs);
      reads = subst (λ ds. (c : Condition ℕ) → In c ds → Reads (Valued rs) c) (sym (conditions_read cs s p)) v;
    }

-- n rules from an address on can be evaluated on rs
pub record Evaluates (ws : List ℕ) (a n : ℕ) (rs : List ℤ) : Type 0 where
  pub words : RulesAt ws a (rules_from ws a n)
  pub handles : (r : Rule ℕ) → In r (rules_from ws a n) → SelectorStands rs r.target × Operands (Valued rs) r.function

pub evaluates : {ws : List ℕ} {a : ℕ} (rules : List (Rule ℕ)) (rs : List ℤ) → RulesAt ws a rules → ((r : Rule ℕ) → In r rules → ProperRule r) → ((r : Rule ℕ) → In r rules → SelectorStands rs r.target × Operands (Valued rs) r.function) → Evaluates ws a (length rules) rs
evaluates {ws} {a} rules rs s p v =
    let e : rules ≡ rules_from ws a (length rules) = sym (rules_read rules s p) in
    record {
      words = subst (λ qs. RulesAt ws a qs) e s;
      handles = subst (λ qs. (r : Rule ℕ) → In r qs → SelectorStands rs r.target × Operands (Valued rs) r.function) e v;
    }

-- ---- what evaluating rules leaves

abbrev pub rule_value : List ℤ → Rule ℕ → ℤ
rule_value rs r = apply (read_register rs) r.function

-- 01: "all or none"
abbrev pub values_fit : List (Rule ℕ) → List ℤ → Bool
values_fit rules rs = all (λ r. in_range (rule_value rs r)) rules

abbrev pub after_rules : Bool → List (Rule ℕ) → List ℤ → List ℤ
after_rules true rules rs = write_all rules rs rs
after_rules false rules rs = rs

-- from memory m, whose first h cells are the stack, to m'
pub record Evaluated (rules : List (Rule ℕ)) (h : ℕ) (m : List ℤ) (r : Bool) (m' : List ℤ) : Type 0 where
  pub answer : r ≡ values_fit rules (stack h m)
  pub memory : m' ≡ lay h mark (after_rules r rules (stack h m)) m
