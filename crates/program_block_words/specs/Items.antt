-- A rule or a condition as words, from the bytes of its field: a tag, two bytes of length, then the body. What follows the field does not matter.
use Rattle.std.specs.Prelude.{ℕ, ◌+◌, ◌-◌, ◌*◌, ◌≤◌, max, ◌≡◌, refl, Bool, true, false, cond, List, [], ◌∷◌, ◌++◌, get_or, length, eqb, ltb}
use Rattle.std.proofs.Common.{arith, ap, ap₂}
use Rattle.std.proofs.Math.Option.{none, some}
use Rattle.meaning.specs.Grammar.{Occurrence, Function, const, copy, binary, sum, diff, prod, maxi, mini, addc, quot, Rule, Condition, range, atmost, condition_position, map_rule, map_condition}
use Rattle.meaning.specs.Rules.{Constant, Proper}
use Rattle.meaning.specs.Layout.{field, unsigned, rule_bytes, condition_bytes}
use Rattle.meaning.specs.Program.{packed, rule_words, condition_words}
use Rattle.meaning.specs.Table.{byte}
use Rattle.theory_table.specs.Numbers.{four_joined, unsigned_small, divisor_in, binary_most}
use Rattle.value.specs.Constants.{word_at}

-- the register of attribute a of position i, counted from 1 at the top: `top` registers stand above the left side's, of which `below` says how many stand below those of each position
unfoldable pub selector : ℕ → List ℕ → ℕ → ℕ → ℕ
selector top below i a = top + a - get_or below i 0

abbrev pub selector_of : ℕ → List ℕ → Occurrence → ℕ
selector_of top below o = selector top below o.position o.attribute

-- of the occurrence at a place of the field
unfoldable pub selector_at : ℕ → List ℕ → List ℕ → ℕ → ℕ
selector_at top below d i = selector top below (byte d i) (byte d (i + 1))

-- ---- rules: target at 3, function at 5, operands and constants behind it

unfoldable pub first_operand : ℕ → List ℕ → List ℕ → ℕ → ℕ
first_operand top below d f = cond (eqb f 0) 0 (selector_at top below d 6)

unfoldable pub second_operand : ℕ → List ℕ → List ℕ → ℕ → ℕ
second_operand top below d f = cond (ltb f 2) 0 (cond (ltb 6 f) 0 (selector_at top below d 8))

unfoldable pub rule_constant : List ℕ → ℕ → ℕ
rule_constant d f = cond (eqb f 0) (word_at d 6) (cond (ltb f 7) 0 (word_at d 8))

unfoldable pub rule_item : ℕ → List ℕ → List ℕ → List ℕ
rule_item top below d = packed (selector_at top below d 3) (byte d 5) (first_operand top below d (byte d 5)) (second_operand top below d (byte d 5)) ∷ rule_constant d (byte d 5) ∷ []

pub rule_item_lem : (top : ℕ) (below : List ℕ) (r : Rule Occurrence) (rest : List ℕ) → Constant r.function → rule_item top below (field 4 (rule_bytes r) ++ rest) ≡ rule_words (map_rule (selector_of top below) r)
unfolding rule_item selector_at first_operand second_operand rule_constant
rule_item_lem top below r rest h = go r.target r.function h
  where
    go : (o : Occurrence) (f : Function Occurrence) → Constant f → rule_item top below (field 4 (rule_bytes (record { target = o; function = f })) ++ rest) ≡ rule_words (map_rule (selector_of top below) (record { target = o; function = f }))
    go o (const c) k = ap (λ n. packed (selector_of top below o) 0 0 0 ∷ n ∷ []) (four_joined (unsigned c) (unsigned_small c k))
    go o (copy a) k = refl
    go o (binary sum a b) k = refl
    go o (binary diff a b) k = refl
    go o (binary prod a b) k = refl
    go o (binary maxi a b) k = refl
    go o (binary mini a b) k = refl
    go o (addc a c) k = ap (λ n. packed (selector_of top below o) 7 (selector_of top below a) 0 ∷ n ∷ []) (four_joined (unsigned c) (unsigned_small c k))
    go o (quot a c) k = ap (λ n. packed (selector_of top below o) 8 (selector_of top below a) 0 ∷ n ∷ []) (four_joined (unsigned c) (unsigned_small c (divisor_in c k)))

-- ---- conditions: kind at 3, occurrence at 4, then two bounds, or another occurrence and for kind 2 a constant

abbrev pub choose_words : Bool → List ℕ → List ℕ → List ℕ
choose_words true xs ys = xs
choose_words false xs ys = ys

unfoldable pub compared_with : List ℕ → ℕ
compared_with d = cond (eqb (byte d 3) 1) 0 (word_at d 8)

unfoldable pub condition_item : ℕ → List ℕ → List ℕ → List ℕ
condition_item top below d = choose_words (eqb (byte d 3) 0)
    (packed (selector_at top below d 4) 0 0 0 ∷ word_at d 6 ∷ word_at d 10 ∷ [])
    (packed (selector_at top below d 4) (byte d 3) (selector_at top below d 6) 0 ∷ compared_with d ∷ 0 ∷ [])

unfoldable pub condition_place : List ℕ → ℕ
condition_place d = cond (eqb (byte d 3) 0) (byte d 4) (max (byte d 4) (byte d 6))

pub condition_item_lem : (top : ℕ) (below : List ℕ) (c : Condition Occurrence) (rest : List ℕ) → Proper c → condition_item top below (field 5 (condition_bytes c) ++ rest) ≡ condition_words (map_condition (selector_of top below) c)
unfolding condition_item selector_at compared_with
condition_item_lem top below (range o l h) rest k = ap₂ (λ x y. packed (selector_of top below o) 0 0 0 ∷ x ∷ y ∷ []) (four_joined (unsigned l) (unsigned_small l k.0)) (four_joined (unsigned h) (unsigned_small h k.1))
condition_item_lem top below (atmost o u none) rest k = refl
condition_item_lem top below (atmost o u (some c)) rest k = ap (λ x. packed (selector_of top below o) 2 (selector_of top below u) 0 ∷ x ∷ 0 ∷ []) (four_joined (unsigned c) (unsigned_small c k))

pub condition_place_lem : (c : Condition Occurrence) (rest : List ℕ) → condition_place (field 5 (condition_bytes c) ++ rest) ≡ condition_position c
unfolding condition_place
condition_place_lem (range o l h) rest = refl
condition_place_lem (atmost o u none) rest = refl
condition_place_lem (atmost o u (some c)) rest = refl

-- ---- either

-- the position that a field's rule (true) or condition (false) belongs to; 255 where the field is the other
unfoldable pub place_of : Bool → List ℕ → ℕ
place_of true d = cond (eqb (byte d 0) 4) (byte d 3) 255
place_of false d = cond (eqb (byte d 0) 5) (condition_place d) 255

unfoldable pub item_of : Bool → ℕ → List ℕ → List ℕ → List ℕ
item_of true top below d = rule_item top below d
item_of false top below d = condition_item top below d

abbrev pub item_size : Bool → ℕ
item_size true = 2
item_size false = 3

pub item_length : (rules : Bool) (top : ℕ) (below d : List ℕ) → length (item_of rules top below d) ≡ item_size rules
unfolding item_of rule_item condition_item
item_length true top below d = refl
item_length false top below d = go (eqb (byte d 3) 0)
  where
    go : (b : Bool) → length (choose_words b (packed (selector_at top below d 4) 0 0 0 ∷ word_at d 6 ∷ word_at d 10 ∷ []) (packed (selector_at top below d 4) (byte d 3) (selector_at top below d 6) 0 ∷ compared_with d ∷ 0 ∷ [])) ≡ 3
    go true = refl
    go false = refl

-- ---- the bytes that a field has

-- a rule's, by its function
pub record WholeRule (d : List ℕ) : Type 0 where
  pub target : 8 ≤ length d
  pub constant : byte d 5 ≡ 0 → 10 ≤ length d
  pub second : 2 ≤ byte d 5 → 10 ≤ length d
  pub behind : 7 ≤ byte d 5 → 12 ≤ length d

-- a condition's, by its kind
pub record WholeCondition (d : List ℕ) : Type 0 where
  pub first : 8 ≤ length d
  pub bounds : byte d 3 ≡ 0 → 14 ≤ length d
  pub compared : (byte d 3 ≡ 1 → ⊥) → 12 ≤ length d

abbrev pub Whole : Bool → List ℕ → Type 0
Whole true d = WholeRule d
Whole false d = WholeCondition d

pub rule_whole : (r : Rule Occurrence) (rest : List ℕ) → WholeRule (field 4 (rule_bytes r) ++ rest)
rule_whole r rest = go r.target r.function
  where
    go : (o : Occurrence) (f : Function Occurrence) → WholeRule (field 4 (rule_bytes (record { target = o; function = f })) ++ rest)
    go o (const c) = record { target = omega arith; constant = λ e. omega arith; second = λ l. omega arith; behind = λ l. omega arith }
    go o (copy a) = record { target = omega arith; constant = λ e. omega arith; second = λ l. omega arith; behind = λ l. omega arith }
    go o (binary f a b) = record { target = omega arith; constant = λ e. omega arith; second = λ l. omega arith; behind = λ l. omega (arith, binary_most f) }
    go o (addc a c) = record { target = omega arith; constant = λ e. omega arith; second = λ l. omega arith; behind = λ l. omega arith }
    go o (quot a c) = record { target = omega arith; constant = λ e. omega arith; second = λ l. omega arith; behind = λ l. omega arith }

pub condition_whole : (c : Condition Occurrence) (rest : List ℕ) → WholeCondition (field 5 (condition_bytes c) ++ rest)
condition_whole (range o l h) rest = record { first = omega arith; bounds = λ e. omega arith; compared = λ n. omega arith }
condition_whole (atmost o u none) rest = record { first = omega arith; bounds = λ e. omega arith; compared = λ n. absurd (n refl) }
condition_whole (atmost o u (some c)) rest = record { first = omega arith; bounds = λ e. omega arith; compared = λ n. omega arith }

-- its slot: 2 k for a rule of position k, 2 k + 1 for a condition
abbrev pub slot_at : Bool → ℕ → ℕ
slot_at true k = 2 * k
slot_at false k = 2 * k + 1

unfoldable pub slot_of : List ℕ → ℕ
slot_of d = cond (eqb (byte d 0) 4) (2 * byte d 3) (cond (eqb (byte d 0) 5) (2 * condition_place d + 1) 511)

-- what is written of a field where the items of position k are
unfoldable pub item_here : Bool → ℕ → List ℕ → ℕ → List ℕ → List ℕ
item_here rules top below k d = choose_words (eqb (place_of rules d) k) (item_of rules top below d) []
