-- Words taken apart: a rule's two words and a condition's three give the rule and the condition back.
use Rattle.std.specs.Prelude.{ℕ, ◌+◌, ◌<◌, ◌≡◌, refl, Bool, true, false, List, ◌∷◌, get_or, ℤ, pos, eqb}
use Rattle.std.proofs.Common.{arith, ap₂, ◌∙◌}
use Rattle.std.proofs.Math.Option.{Option, none, some}
use Rattle.meaning.specs.Grammar.{Function, const, copy, functions_of, binary, sum, diff, prod, maxi, mini, addc, quot, Rule, Condition, range, atmost}
use Rattle.meaning.specs.Layout.{unsigned}
use Rattle.meaning.specs.Table.{signed}
use Rattle.meaning.specs.Program.{packed, rule_words, condition_words}
use Rattle.theory_table.specs.Numbers.{signed_unsigned, divisor_in}
use Rattle.theory_program.specs.Parts.{rule_target, rule_function, rule_first, rule_second, condition_kind, condition_first, condition_second}
use Rattle.theory_program.specs.Code.{RulesAt, ConditionsAt, rule_first_lem, condition_first_lem}
use Rattle.theory_program.specs.Proper.{ProperRule, ProperCondition}

-- ---- four numbers in one word

pub record Parts (w t f a b : ℕ) : Type 0 where
  pub first : rule_target w ≡ t
  pub function : rule_function w ≡ f
  pub second : rule_first w ≡ a
  pub third : rule_second w ≡ b

pub unpacked : (t f a b : ℕ) → t < 128 → f < 16 → a < 128 → Parts (packed t f a b) t f a b
unpacked t f a b l m n = record { first = omega arith; function = omega arith; second = omega arith; third = omega arith }

-- ---- rules

-- the function with a number
abbrev pub function_from : ℕ → ℕ → ℕ → ℤ → Function ℕ
function_from k a b c = get_or (functions_of a b c c) k (const c)

abbrev pub rule_from : ℕ → ℕ → Rule ℕ
rule_from w c = record { target = rule_target w; function = function_from (rule_function w) (rule_first w) (rule_second w) (signed c) }

-- from the parts of the word: the numbers t, f, a and b name the rule, whatever is not read being 0
rule_named : (t f a b : ℕ) (c : ℕ) (z : ℤ) → t < 128 → f < 16 → a < 128 → signed c ≡ z → rule_from (packed t f a b) c ≡ record { target = t; function = function_from f a b z }
rule_named t f a b c z l m n e =
    let u = unpacked t f a b l m n in
    λ i. record { target = u.first i; function = function_from (u.function i) (u.second i) (u.third i) (e i) }

rule_back_of : (t : ℕ) (f : Function ℕ) → ProperRule (record { target = t; function = f }) → rule_from (get_or (rule_words (record { target = t; function = f })) 0 0) (get_or (rule_words (record { target = t; function = f })) 1 0) ≡ record { target = t; function = f }
rule_back_of t (const c) p = rule_named t 0 0 0 (unsigned c) c (omega (arith, p.target.1)) (omega arith) (omega arith) (signed_unsigned c p.constant)
rule_back_of t (copy a) p = rule_named t 1 a 0 0 (pos 0) (omega (arith, p.target.1)) (omega arith) (omega (arith, p.operands.1)) refl
rule_back_of t (binary sum a b) p = rule_named t 2 a b 0 (pos 0) (omega (arith, p.target.1)) (omega arith) (omega (arith, p.operands.0.1)) refl
rule_back_of t (binary diff a b) p = rule_named t 3 a b 0 (pos 0) (omega (arith, p.target.1)) (omega arith) (omega (arith, p.operands.0.1)) refl
rule_back_of t (binary prod a b) p = rule_named t 4 a b 0 (pos 0) (omega (arith, p.target.1)) (omega arith) (omega (arith, p.operands.0.1)) refl
rule_back_of t (binary maxi a b) p = rule_named t 5 a b 0 (pos 0) (omega (arith, p.target.1)) (omega arith) (omega (arith, p.operands.0.1)) refl
rule_back_of t (binary mini a b) p = rule_named t 6 a b 0 (pos 0) (omega (arith, p.target.1)) (omega arith) (omega (arith, p.operands.0.1)) refl
rule_back_of t (addc a c) p = rule_named t 7 a 0 (unsigned c) c (omega (arith, p.target.1)) (omega arith) (omega (arith, p.operands.1)) (signed_unsigned c p.constant)
rule_back_of t (quot a c) p = rule_named t 8 a 0 (unsigned c) c (omega (arith, p.target.1)) (omega arith) (omega (arith, p.operands.1)) (signed_unsigned c (divisor_in c p.constant))

-- the first rule of some that stand there
pub rule_at : {ws : List ℕ} {a : ℕ} {r : Rule ℕ} {rs : List (Rule ℕ)} → RulesAt ws a (r ∷ rs) → ProperRule r → rule_from (get_or ws a 0) (get_or ws (a + 1) 0) ≡ r
rule_at {r = r} s p = let h = rule_first_lem s in ap₂ rule_from h.0 h.1 ∙ rule_back_of r.target r.function p

-- ---- conditions

-- the constant of a comparison: none where its kind is 1
abbrev pub offset_of_kind : Bool → ℤ → Option ℤ
offset_of_kind true c = none
offset_of_kind false c = some c

-- kind 0 is a range; of a comparison the second word is the constant
abbrev pub condition_of_kind : Bool → Bool → ℕ → ℕ → ℤ → ℤ → Condition ℕ
condition_of_kind true k a b l h = range a l h
condition_of_kind false k a b l h = atmost a b (offset_of_kind k l)

abbrev pub condition_from : ℕ → ℕ → ℕ → Condition ℕ
condition_from w l h = condition_of_kind (eqb (condition_kind w) 0) (eqb (condition_kind w) 1) (condition_first w) (condition_second w) (signed l) (signed h)

condition_back : (c : Condition ℕ) → ProperCondition c → condition_from (get_or (condition_words c) 0 0) (get_or (condition_words c) 1 0) (get_or (condition_words c) 2 0) ≡ c
condition_back (range a l h) p =
    let u = unpacked a 0 0 0 (omega (arith, p.reads.1)) (omega arith) (omega arith) in
    rw (u.first, u.function, signed_unsigned l p.bounds.0, signed_unsigned h p.bounds.1) refl
condition_back (atmost a b none) p =
    let u = unpacked a 1 b 0 (omega (arith, p.reads.0.1)) (omega arith) (omega (arith, p.reads.1.1)) in
    rw (u.first, u.function, u.second) refl
condition_back (atmost a b (some c)) p =
    let u = unpacked a 2 b 0 (omega (arith, p.reads.0.1)) (omega arith) (omega (arith, p.reads.1.1)) in
    rw (u.first, u.function, u.second, signed_unsigned c p.bounds) refl

-- the first condition of some that stand there
pub condition_at : {ws : List ℕ} {a : ℕ} {c : Condition ℕ} {cs : List (Condition ℕ)} → ConditionsAt ws a (c ∷ cs) → ProperCondition c → condition_from (get_or ws a 0) (get_or ws (a + 1) 0) (get_or ws (a + 2) 0) ≡ c
condition_at {c = c} s p = let h = condition_first_lem s in (λ i. condition_from (h.0 i) (h.1 i) (h.2 i)) ∙ condition_back c p
