-- The fault of a rule is the one that 01's table gives.
use Prim.Native.Nat.{ℕ, zero, suc, ◌+◌, ◌-◌, ◌≤◌, ◌<◌}
use mathlib.Core.Path.{◌≡◌, refl, sym, ◌∙◌, ap, ap₂}
use mathlib.Core.Bool.{Bool, true, false, ◌&&◌, ◌||◌, not, cond, true≢false, and-true}
use mathlib.Core.List.{List, [], ◌∷◌}
use native.Mathlib.Omega.{arith}
use lib.Dec.{eqb, leb, ltb}
use lib.IntN.{pos}
use lib.Signed.{le_z}
use lib.ListN.{get_or, length, take}
use borrow.Author.Tests.{leb-true, leb-false, le-ltb, lt-ltb, eqb-false, ne_eqb}
use Rattle.meaning.specs.Limits.{rules_limit, attributes_limit, divisor_limit}
use Rattle.meaning.specs.Base.{all}
use Rattle.meaning.specs.Grammar.{Symbol, Occurrence, Function, const, functions_of, Rule, Condition, Counts}
use Rattle.meaning.specs.Table.{byte, constant_at, State, Entry, Header, occurrence_at, occurrence_known, is_input, has_rule, function_of, operands, rule_length, lowest_of, judge_field, tag_stands, stage, at_any}
use Rattle.table_fields.specs.Demand.{if_equal, if_below, below, lacks, holds, equal, at_most}
use Rattle.table_fields.proofs.Rest.{field_of}
use Rattle.table_fields.proofs.Judged.{judge_stands}
use Rattle.table_rules.specs.Rule.{Small, bit, class_in, four_at, length_of, operand_count, operand_class, operand_place, divisor_fits, rule_order, rule_items, rule_fault}
use Rattle.table_rules.specs.Note.{Placed, Notes, occurrence, is_set}
use Rattle.table_rules.proofs.Laws.{ap3, class_inside, class_first, class_last}
use Rattle.table_rule_fields.proofs.note.Noting.{notes_bit}
use Rattle.table_rules.proofs.Order.{divisor_same}
use Rattle.table_rules.proofs.ClassDemands.{Classed, input, classed, uses_by, entry, state}

-- ---- the operands by the function

abbrev function_by : List ℕ → ℕ → Function Occurrence
function_by b f = get_or (functions_of (occurrence_at b 3) (occurrence_at b 5) (constant_at b 3) (constant_at b 5)) f (const (pos 0))

abbrev both : List ℕ → List Occurrence
both b = occurrence_at b 3 ∷ occurrence_at b 5 ∷ []

operands_by : (b : List ℕ) (f : ℕ) → f ≤ 8 → operands (function_by b f) ≡ take (operand_count f) (both b)
unfolding operand_count if_equal if_below
operands_by b zero l = refl
operands_by b (suc zero) l = refl
operands_by b (suc (suc zero)) l = refl
operands_by b (suc (suc (suc zero))) l = refl
operands_by b (suc (suc (suc (suc zero)))) l = refl
operands_by b (suc (suc (suc (suc (suc zero))))) l = refl
operands_by b (suc (suc (suc (suc (suc (suc zero)))))) l = refl
operands_by b (suc (suc (suc (suc (suc (suc (suc zero))))))) l = refl
operands_by b (suc (suc (suc (suc (suc (suc (suc (suc zero)))))))) l = refl
operands_by b (suc (suc (suc (suc (suc (suc (suc (suc (suc f))))))))) l = absurd (omega arith)

length_by : (f : ℕ) → f ≤ 8 → rule_length f ≡ length_of f
unfolding length_of if_equal if_below
length_by zero l = refl
length_by (suc zero) l = refl
length_by (suc (suc zero)) l = refl
length_by (suc (suc (suc zero))) l = refl
length_by (suc (suc (suc (suc zero)))) l = refl
length_by (suc (suc (suc (suc (suc zero))))) l = refl
length_by (suc (suc (suc (suc (suc (suc zero)))))) l = refl
length_by (suc (suc (suc (suc (suc (suc (suc zero))))))) l = refl
length_by (suc (suc (suc (suc (suc (suc (suc (suc zero)))))))) l = refl
length_by (suc (suc (suc (suc (suc (suc (suc (suc (suc f))))))))) l = absurd (omega arith)

-- a test of the k-th of n operands
abbrev given : ℕ → ℕ → Bool → Bool
given k n x = cond (ltb k n) x true

all_given : (g : Occurrence → Bool) (x y : Occurrence) (n : ℕ) → n ≤ 2 → all g (take n (x ∷ y ∷ [])) ≡ given 0 n (g x) && given 1 n (g y)
all_given g x y zero l = refl
all_given g x y (suc zero) l = refl
all_given g x y (suc (suc zero)) l = ap (λ z. g x && z) (and-true (g y))
all_given g x y (suc (suc (suc n))) l = absurd (omega arith)

count_small : (f : ℕ) → operand_count f ≤ 2
unfolding operand_count if_equal if_below
count_small f = go (eqb f 0) (eqb f 1) (ltb f 7)
  where
    go : (x y z : Bool) → cond x 0 (cond y 1 (cond z 2 1)) ≤ 2
    go true y z = omega arith
    go false true z = omega arith
    go false false true = omega arith
    go false false false = omega arith

given_classed : (x : Bool) {k i : Bool} {c : ℕ} → Classed k i c → Classed (cond x k true) (cond x i true) (cond x c 1)
given_classed true q = q
given_classed false q = input

-- ---- 4, and what follows it

rule_by :
    (p q v v' y d : Bool) (l : List (Bool × ℕ)) (n : ℕ) → v ≡ v' → y ≡ d → lowest_of l ≡ n
    → lowest_of ((p && q && (false || v) && y, 4) ∷ l) ≡ cond p (cond q (cond v' (cond d n 4) 4) 4) 4
rule_by false q v v' y d l n e f g = refl
rule_by true false v v' y d l n e f g = refl
rule_by true true false false y d l n e f g = refl
rule_by true true false true y d l n e f g = absurd (true≢false (sym e))
rule_by true true true false y d l n e f g = absurd (true≢false e)
rule_by true true true true false false l n e f g = refl
rule_by true true true true true true l n e f g = g
rule_by true true true true false true l n e f g = absurd (true≢false (sym f))
rule_by true true true true true false l n e f g = absurd (true≢false f)

far_by :
    (p q v w kt ko : Bool) (l : List (Bool × ℕ))
    → lowest_of ((p && q && (true || v) && (not false || w), 4) ∷ (false && kt && ko, 5) ∷ l) ≡ cond p (cond q 5 4) 4
far_by false q v w kt ko l = refl
far_by true false v w kt ko l = refl
far_by true true v w kt ko l = refl

divisor_in : (b : List ℕ) (x : Bool) → not x || (le_z (pos 1) (constant_at b 5) && le_z (constant_at b 5) (pos divisor_limit)) ≡ cond x (cond (ltb (four_at b 5) 1) false (leb (four_at b 5) divisor_limit)) true
unfolding four_at
divisor_in b false = refl
divisor_in b true = divisor_same (four_at b 5) ∙ go (leb 1 (four_at b 5)) refl
  where
    go : (y : Bool) → leb 1 (four_at b 5) ≡ y → y && leb (four_at b 5) divisor_limit ≡ cond (ltb (four_at b 5) 1) false (leb (four_at b 5) divisor_limit)
    go true e = ap (λ z. cond z false (leb (four_at b 5) divisor_limit)) (sym (le-ltb (four_at b 5) 1 (leb-true 1 (four_at b 5) e)))
    go false e = ap (λ z. cond z false (leb (four_at b 5) divisor_limit)) (sym (lt-ltb (four_at b 5) 1 (leb-false 1 (four_at b 5) e)))

place_same : (x : Bool) (m t : ℕ) → eqb t 0 ≡ false → cond x (ltb m t) true ≡ ltb (cond x m 0) t
place_same true m t e = refl
place_same false m t e = sym (lt-ltb 0 t (let n = eqb-false t 0 e in omega arith))

module _ (h : Header) (cs : List Counts) (os ws : List ℕ) (es : List Entry) (r c o l : ℕ) (xs : List Symbol) (rs : List (Rule Occurrence)) (cds : List (Condition Occurrence))
    (width : ℕ) (inh syn note : List ℕ) (pl : Placed cs ws l xs width inh syn) (small : Small width inh syn) (nt : Notes note rs) (b : List ℕ) where
  abbrev e : Entry
  e = entry h cs os ws es r c o l xs rs cds

  abbrev s : State
  s = state h cs os ws es r c o l xs rs cds

  abbrev f : ℕ
  f = byte b 2

  abbrev K : Occurrence → Bool
  K x = occurrence_known s e x

  abbrev I : Occurrence → Bool
  I x = is_input s e x

  -- every operand passes a test
  all_operands : (g : Occurrence → Bool) → f ≤ 8 → all g (operands (function_of b)) ≡ given 0 (operand_count f) (g (occurrence_at b 3)) && given 1 (operand_count f) (g (occurrence_at b 5))
  all_operands g u = ap (all g) (operands_by b f u) ∙ all_given g (occurrence_at b 3) (occurrence_at b 5) (operand_count f) (count_small f)

  class_of : (i : ℕ) → Classed (K (occurrence_at b i)) (I (occurrence_at b i)) (class_in width inh syn b i)
  unfolding class_in
  class_of i = classed h cs os ws es r c o l xs rs cds width inh syn pl (byte b i) (byte b (i + 1))

  first_class : Classed (given 0 (operand_count f) (K (occurrence_at b 3))) (given 0 (operand_count f) (I (occurrence_at b 3))) (operand_class width inh syn b (operand_count f) 0)
  unfolding operand_class if_below
  first_class = given_classed (ltb 0 (operand_count f)) (class_of 3)

  second_class : Classed (given 1 (operand_count f) (K (occurrence_at b 5))) (given 1 (operand_count f) (I (occurrence_at b 5))) (operand_class width inh syn b (operand_count f) 1)
  unfolding operand_class if_below
  second_class = given_classed (ltb 1 (operand_count f)) (class_of 5)

  noted_same : (class_in width inh syn b 0 ≡ 0 → ⊥) → has_rule e (occurrence_at b 0) ≡ bit (get_or note (byte b 0) 0) (byte b 1 - 1)
  unfolding class_in
  noted_same k =
      let p : byte b 0 ≤ width = class_inside width inh syn (byte b 0) (byte b 1) k in
      let q : 1 ≤ byte b 1 = class_first width inh syn (byte b 0) (byte b 1) k in
      let u : byte b 1 ≤ attributes_limit = omega (arith, class_last width inh syn (byte b 0) (byte b 1) k, small.1 (byte b 0) p) in
      let one : byte b 1 ≡ suc (byte b 1 - 1) = omega arith in
      ap (λ (a : ℕ). is_set rs (occurrence (byte b 0) a)) one ∙ sym (notes_bit note rs nt (byte b 0) (byte b 1 - 1) (omega (arith, small.0)) (omega arith))

  uses_judged :
      f ≤ 8
      → lowest_of ((K (occurrence_at b 0) && all K (operands (function_of b)), 5) ∷ (true, 6) ∷ (not (I (occurrence_at b 0)) && all I (operands (function_of b)), 7)
      ∷ (not (has_rule e (occurrence_at b 0)), 8) ∷ (eqb (byte b 0) 0 || all (λ x. ltb x.position (byte b 0)) (operands (function_of b)), 9) ∷ (true, 10) ∷ [])
      ≡ rule_items width inh syn note b (operand_count f)
  unfolding rule_items rule_order operand_place lacks below if_equal if_below
  uses_judged u =
      ap3
      (λ x y z. lowest_of ((K (occurrence_at b 0) && x, 5) ∷ (true, 6) ∷ (not (I (occurrence_at b 0)) && y, 7) ∷ (not (has_rule e (occurrence_at b 0)), 8) ∷ (eqb (byte b 0) 0 || z, 9) ∷ (true, 10) ∷ []))
      (all_operands K u) (all_operands I u) (all_operands (λ x. ltb x.position (byte b 0)) u)
      ∙ uses_by
      (has_rule e (occurrence_at b 0))
      (bit (get_or note (byte b 0) 0) (byte b 1 - 1))
      (eqb (byte b 0) 0)
      (given 0 (operand_count f) (ltb (byte b 3) (byte b 0)))
      (ltb (cond (ltb 0 (operand_count f)) (byte b 3) 0) (byte b 0))
      (given 1 (operand_count f) (ltb (byte b 5) (byte b 0)))
      (ltb (cond (ltb 1 (operand_count f)) (byte b 5) 0) (byte b 0))
      (λ z. place_same (ltb 0 (operand_count f)) (byte b 3) (byte b 0) z)
      (λ z. place_same (ltb 1 (operand_count f)) (byte b 5) (byte b 0) z)
      (class_of 0) first_class second_class noted_same

  -- x is "the function is above 8", y "the function is 8", u "the function is at most 8"
  abbrev rest : List (Bool × ℕ)
  rest =
      (true, 6) ∷ (not (I (occurrence_at b 0)) && all I (operands (function_of b)), 7) ∷ (not (has_rule e (occurrence_at b 0)), 8)
      ∷ (eqb (byte b 0) 0 || all (λ x. ltb x.position (byte b 0)) (operands (function_of b)), 9)
      ∷ (true, 10)
      ∷ []

  abbrev divisor : Bool
  divisor = le_z (pos 1) (constant_at b 5) && le_z (constant_at b 5) (pos divisor_limit)

  abbrev whole : Bool → Bool → Bool → ℕ
  whole x y u =
      lowest_of
      ((leb 3 (length b) && ltb r rules_limit && (x || eqb (length b) (rule_length f)) && (not y || divisor), 4)
      ∷ (u && K (occurrence_at b 0) && all K (operands (function_of b)), 5)
      ∷ rest
      )

  abbrev fault : Bool → ℕ
  fault u =
      cond (leb 3 (length b)) (cond (ltb r rules_limit) (cond u (cond (eqb (length b) (length_of f)) (cond (divisor_fits f b) (rule_items width inh syn note b (operand_count f)) 4) 4) 5) 4) 4

  by_function : (u : Bool) → leb f 8 ≡ u → whole (ltb 8 f) (eqb f 8) (leb f 8) ≡ fault (leb f 8)
  unfolding divisor_fits if_equal if_below
  by_function true w =
      let k : f ≤ 8 = leb-true f 8 w in
      ap₂ (λ x u. whole x (eqb f 8) u) (le-ltb 8 f k) w
      ∙ rule_by (leb 3 (length b)) (ltb r rules_limit) (eqb (length b) (rule_length f)) (eqb (length b) (length_of f)) (not (eqb f 8) || divisor) (divisor_fits f b) ((K (occurrence_at b 0) && all K (operands (function_of b)), 5) ∷ rest) (rule_items width inh syn note b (operand_count f))
      (ap (λ (x : ℕ). eqb (length b) x) (length_by f k))
      (divisor_in b (eqb f 8))
      (uses_judged k)
      ∙ sym (ap fault w)
  by_function false w =
      let k : 8 < f = leb-false f 8 w in
      ap3 whole (lt-ltb 8 f k) (ne_eqb f 8 (λ q. omega arith)) w
      ∙ far_by (leb 3 (length b)) (ltb r rules_limit) (eqb (length b) (rule_length f)) divisor (K (occurrence_at b 0)) (all K (operands (function_of b))) rest
      ∙ sym (ap fault w)

  pub rule_judged : (at : ℕ) → stage s ≡ at_any → judge_field s (field_of at 4 b) ≡ rule_fault r width inh syn note b
  unfolding rule_fault at_most below equal holds
  rule_judged at q = judge_stands s at 4 b (ap (λ x. tag_stands x 4) q) ∙ by_function (leb f 8) refl
