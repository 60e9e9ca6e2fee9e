-- The rules and conditions of a production, judged by the values of its occurrences from the bytes of their fields.
use Rattle.std.specs.Prelude.{ℕ, ◌+◌, ◌-◌, ◌≤◌, ◌<◌, ◌≡◌, Bool, true, false, ◌&&◌, cond, List, ◌∷◌, ◌++◌, length, take, drop, T, eqb, ltb, ℤ, pos, negsuc, ◌+ℤ◌}
use Rattle.std.proofs.Common.{arith, sym, ◌∙◌, length-drop, take_all, leb→le}
use Rattle.std.proofs.Math.Path.{refl, ap, ap₂}
use Rattle.std.proofs.Math.Bool.{and_assoc}
use Rattle.std.proofs.Math.Option.{none, some}
use Rattle.std.specs.Int.Signed.{le_z}
use Rattle.meaning.specs.Base.{all}
use Rattle.meaning.specs.Grammar.{Occurrence, Function, const, copy, binary, sum, diff, prod, maxi, mini, addc, quot, Rule, Condition, range, atmost}
use Rattle.meaning.specs.Rules.{Constant, Proper}
use Rattle.meaning.specs.Layout.{field, rule_bytes, condition_bytes}
use Rattle.meaning.specs.Table.{byte, constant_at}
use Rattle.meaning.specs.Value.{apply, holds}
use Rattle.theory_base.specs.Members.{both, and_swap}
use Rattle.theory_table.specs.Numbers.{constant_back, divisor_in}
use Rattle.value.specs.Computed.{computed}
use Rattle.value.specs.Ranged.{ranged}
use Rattle.program_block_words.specs.Fields.{Listed, Fact, Behind, field_at_lem, none_left}

-- ---- what holds, by the values v of the occurrences

abbrev pub same_z : ℤ → ℤ → Bool
same_z a b = le_z a b && le_z b a

pub same_exactly : (a b : ℤ) → T (same_z a b) → a ≡ b
same_exactly (pos a) (pos b) t = let h = both (le_z (pos a) (pos b)) (le_z (pos b) (pos a)) t in ap pos (omega (arith, leb→le a b h.0, leb→le b a h.1))
same_exactly (pos a) (negsuc b) t = absurd t
same_exactly (negsuc a) (pos b) t = absurd t
same_exactly (negsuc a) (negsuc b) t = let h = both (le_z (negsuc a) (negsuc b)) (le_z (negsuc b) (negsuc a)) t in ap negsuc (omega (arith, leb→le b a h.0, leb→le a b h.1))

abbrev pub rule_true : (Occurrence → ℤ) → Rule Occurrence → Bool
rule_true v r = same_z (ranged (apply v r.function)) (v r.target)

unfoldable pub all_true : (Occurrence → ℤ) → List (Rule Occurrence) → List (Condition Occurrence) → Bool
all_true v rs cs = all (rule_true v) rs && all (holds v) cs

-- ---- from a field's bytes: a tag, two bytes of length, then the body; what follows the field does not matter

-- the value of the occurrence at a place of the field
unfoldable pub occurrence_here : (Occurrence → ℤ) → List ℕ → ℕ → ℤ
occurrence_here v d i = v (record { position = byte d i; attribute = byte d (i + 1) })

unfoldable pub first_here : (Occurrence → ℤ) → List ℕ → ℕ → ℤ
first_here v d f = cond (eqb f 0) (constant_at d 6) (occurrence_here v d 6)

unfoldable pub second_here : (Occurrence → ℤ) → List ℕ → ℕ → ℤ
second_here v d f = cond (ltb f 7) (occurrence_here v d 8) (constant_at d 8)

unfoldable pub rule_here : (Occurrence → ℤ) → List ℕ → Bool
rule_here v d = same_z (ranged (computed (byte d 5) (first_here v d (byte d 5)) (second_here v d (byte d 5)))) (occurrence_here v d 3)

-- what a comparison adds: kind 1 has no constant
unfoldable pub added_here : List ℕ → ℤ
added_here d = cond (eqb (byte d 3) 1) (pos 0) (constant_at d 8)

abbrev pub choose_bool : Bool → Bool → Bool → Bool
choose_bool true a b = a
choose_bool false a b = b

unfoldable pub condition_here : (Occurrence → ℤ) → List ℕ → Bool
condition_here v d = choose_bool (eqb (byte d 3) 0)
    (le_z (constant_at d 6) (occurrence_here v d 4) && le_z (occurrence_here v d 4) (constant_at d 10))
    (le_z (occurrence_here v d 4) (occurrence_here v d 6 +ℤ added_here d))

unfoldable pub field_true : (Occurrence → ℤ) → List ℕ → Bool
field_true v d = choose_bool (eqb (byte d 0) 4) (rule_here v d) (condition_here v d)

module _ (v : Occurrence → ℤ) where
  pub rule_field_lem : (r : Rule Occurrence) (rest : List ℕ) → Constant r.function → field_true v (field 4 (rule_bytes r) ++ rest) ≡ rule_true v r
  unfolding field_true rule_here first_here second_here occurrence_here
  rule_field_lem r rest h = go r.target r.function h
    where
      go : (o : Occurrence) (f : Function Occurrence) → Constant f → field_true v (field 4 (rule_bytes (record { target = o; function = f })) ++ rest) ≡ rule_true v (record { target = o; function = f })
      go o (const c) k = ap (λ z. same_z (ranged z) (v o)) (constant_back c k)
      go o (copy a) k = refl
      go o (binary sum a b) k = refl
      go o (binary diff a b) k = refl
      go o (binary prod a b) k = refl
      go o (binary maxi a b) k = refl
      go o (binary mini a b) k = refl
      go o (addc a c) k = ap (λ z. same_z (ranged (computed 7 (v a) z)) (v o)) (constant_back c k)
      go o (quot a c) k = ap (λ z. same_z (ranged (computed 8 (v a) z)) (v o)) (constant_back c (divisor_in c k))

  pub condition_field_lem : (c : Condition Occurrence) (rest : List ℕ) → Proper c → field_true v (field 5 (condition_bytes c) ++ rest) ≡ holds v c
  unfolding field_true condition_here occurrence_here added_here
  condition_field_lem (range o l h) rest k = ap₂ (λ x y. le_z x (v o) && le_z (v o) y) (constant_back l k.0) (constant_back h k.1)
  condition_field_lem (atmost o u none) rest k = refl
  condition_field_lem (atmost o u (some c)) rest k = ap (λ z. le_z (v o) (v u +ℤ z)) (constant_back c k)

-- ---- one field after the other

abbrev pub listed_true : (Occurrence → ℤ) → {d : List ℕ} → Listed d → Bool
listed_true v x = all_true v x.rules x.conditions

-- what a walk learns of the first field d, of the rules and conditions before it is passed, and of those behind it
abbrev Truth : Fact
Truth d rs cs rs' cs' = (v : Occurrence → ℤ) → all_true v rs cs ≡ field_true v d && all_true v rs' cs'

rule_truth : (r : Rule Occurrence) (rs : List (Rule Occurrence)) (cs : List (Condition Occurrence)) (bs : List ℕ) → Constant r.function → Truth (field 4 (rule_bytes r) ++ bs) (r ∷ rs) cs rs cs
unfolding all_true
rule_truth r rs cs bs constant v = and_assoc (rule_true v r) (all (rule_true v) rs) (all (holds v) cs) ∙ ap (λ b. b && all_true v rs cs) (sym (rule_field_lem v r bs constant))

condition_truth : (c : Condition Occurrence) (rs : List (Rule Occurrence)) (cs : List (Condition Occurrence)) (bs : List ℕ) → Proper c → Truth (field 5 (condition_bytes c) ++ bs) rs (c ∷ cs) rs cs
unfolding all_true
condition_truth c rs cs bs proper v = and_swap (all (rule_true v) rs) (holds v c) (all (holds v) cs) ∙ ap (λ b. b && all_true v rs cs) (sym (condition_field_lem v c bs proper))

holding_at : (fields : List ℕ) (at size : ℕ) → at < length fields → size ≡ byte (drop at fields) 2 → (x : Listed (drop at fields)) → Behind Truth fields at (at + 3 + size) x
holding_at = field_at_lem (record { of_rule = rule_truth; of_condition = condition_truth })

pub holding_none : (fields : List ℕ) (at : ℕ) → length fields ≤ at → (x : Listed (drop at fields)) (v : Occurrence → ℤ) → listed_true v x ≡ true
unfolding all_true
holding_none fields at l x v = let e = none_left x.own (omega (arith, length-drop at fields)) in rw (e.0, e.1) refl

-- ---- a walk along the fields: whatever the whole lists, what is left lists the rest, and the fields before hold

pub record Going (v : Occurrence → ℤ) (fields : List ℕ) (at : ℕ) : Type 0 where
  pub goes : (x : Listed fields) → (y : Listed (drop at fields)) × (listed_true v x ≡ listed_true v y)

pub going_start : {v : Occurrence → ℤ} {fields : List ℕ} → Going v fields 0
going_start = record { goes = λ x. (x, refl) }

-- the part of the fields from a place on, as code lends it
abbrev pub part_from : List ℕ → ℕ → List ℕ
part_from fields at = take (length fields - at) (drop at fields)

part_is : (fields : List ℕ) (at : ℕ) → part_from fields at ≡ drop at fields
part_is fields at = take_all (length fields - at) (drop at fields) (omega (arith, length-drop at fields))

module _ {v : Occurrence → ℤ} {fields : List ℕ} {at : ℕ} (g : Going v fields at) (l : at < length fields) where
  abbrev field_here : (size : ℕ) → size ≡ byte (part_from fields at) 2 → (x : Listed fields) → Behind Truth fields at (at + 3 + size) (g.goes x).0
  field_here size e x = holding_at fields at size l (e ∙ ap (λ d. byte d 2) (part_is fields at)) (g.goes x).0

  here : {b : Bool} → field_true v (part_from fields at) ≡ b → field_true v (drop at fields) ≡ b
  here e = ap (field_true v) (sym (part_is fields at)) ∙ e

  pub going_inside : (size : ℕ) → size ≡ byte (part_from fields at) 2 → Listed fields → at + 3 + size ≤ length fields
  going_inside size e x = (field_here size e x).inside

  pub going_on : (size : ℕ) → size ≡ byte (part_from fields at) 2 → field_true v (part_from fields at) ≡ true → Going v fields (at + 3 + size)
  going_on size e t = record { goes = λ x. ((field_here size e x).later, (g.goes x).1 ∙ ((field_here size e x).here v ∙ ap (λ b. b && listed_true v (field_here size e x).later) (here t))) }

  pub going_false : field_true v (part_from fields at) ≡ false → (x : Listed fields) → false ≡ listed_true v x
  going_false t x = let s = field_here (byte (part_from fields at) 2) refl x in sym ((g.goes x).1 ∙ (s.here v ∙ ap (λ b. b && listed_true v s.later) (here t)))

pub going_end : {v : Occurrence → ℤ} {fields : List ℕ} {at : ℕ} → Going v fields at → length fields ≤ at → (x : Listed fields) → true ≡ listed_true v x
going_end {v = v} {fields = fields} {at = at} g l x = sym ((g.goes x).1 ∙ holding_none fields at l (g.goes x).0 v)
