-- The plan of a table: the offsets of its fields in house order, from the first production on. The fields there, one after the other, are the table in house order.
use Prim.Native.Nat.{ℕ, suc, ◌+◌, ◌≤◌, ◌<◌}
use native.Mathlib.Omega.{arith}
use Rattle.std.specs.Prelude.{◌≡◌, refl, get_or, take, drop}
use Rattle.std.proofs.Common.{sym, ◌∙◌, inl, inr, length-append, take_at}
use Rattle.std.proofs.Math.Path.{ap, ap₂}
use Rattle.std.proofs.Math.Option.{none, some}
use mathlib.Core.List.{List, [], ◌∷◌, ◌++◌, map, reverse, map-append, append_assoc}
use Rattle.std.proofs.Math.ListN.{length, length-map}
use Rattle.std.proofs.lemmas.List.{length-reverse}
use Rattle.meaning.specs.Limits.{productions_limit}
use Rattle.meaning.specs.Base.{In, total}
use Rattle.meaning.specs.Grammar.{Occurrence, Rule, Condition, range, atmost, Production, Grammar}
use Rattle.meaning.specs.Rules.{WellFormedProduction}
use Rattle.meaning.specs.Layout.{field, header_bytes, counts_fields, carrying_fields, production_bytes, condition_bytes, Bytes}
use Rattle.meaning.specs.Table.{State, Entry, no_entry, well_formed, read_table, grammar_of, production_of}
use Rattle.meaning.specs.PublicCalls.{joined}
use Rattle.meaning_house.specs.Order.{arranged, rule_key, house_production, condition_fields, rule_fields, production_fields, house_bytes}
use Rattle.theory_base.specs.Members.{in_map, map_at}
use Rattle.theory_table.specs.Places.{productions_at}
use Rattle.theory_table.specs.Stretches.{StretchAt, first_offset}
use Rattle.theory_table.specs.ReadLaidOut.{read_stretches, read_stretch, read_front, read_length}
use Rattle.theory_table.specs.ReadWellFormed.{read_well_formed}
use Rattle.theory_order.specs.House.{keyed_rules, keyed_conditions}
use Rattle.theory_order.specs.Gathering.{gathered, gathered_as}
use Rattle.theory_order.specs.FieldWalk.{size_at, field_at, key_in, key_at, field_at_lem, Fields, tagged, rule_field, condition_field, Walked, walked}

-- ---- definitions

-- rules by the two bytes of the occurrence they set, conditions by their whole bodies, which have at most 11 bytes
unfoldable pub plan_of : List ℕ → ℕ → List ℕ → List ℕ
plan_of t o os = o ∷ (gathered (key_at 2 t) [] (tagged t 4 os) ++ gathered (key_at 11 t) [] (tagged t 5 os))

-- how many rules and conditions are among the fields
unfoldable pub uses : List ℕ → List ℕ → ℕ
uses t os = length (tagged t 4 os) + length (tagged t 5 os)

-- the plan of the productions at these offsets, and the room that is taken to make it
pub data Planned (t : List ℕ) : List ℕ → List ℕ → ℕ → Type 0 where
  nothing : Planned t [] [] 0
  next : (o : ℕ) {os offsets plan : List ℕ} {room : ℕ} → Fields t (o + 3 + size_at t o) os → Planned t offsets plan room → Planned t (o ∷ offsets) (plan_of t o os ++ plan) (1 + uses t os + room)

pub record NextPlanned (t : List ℕ) (o : ℕ) (offsets plan : List ℕ) (room : ℕ) : Type 0 where
  pub fields : List ℕ
  pub walk : Fields t (o + 3 + size_at t o) fields
  pub left : List ℕ
  pub room_left : ℕ
  pub further : Planned t offsets left room_left
  pub is_plan : plan ≡ plan_of t o fields ++ left
  pub is_room : room ≡ 1 + uses t fields + room_left

pub planned_more : {t : List ℕ} {o : ℕ} {offsets plan : List ℕ} {room : ℕ} → Planned t (o ∷ offsets) plan room → NextPlanned t o offsets plan room
planned_more (next o {os} {offsets} {plan} {room} f p) = record { fields = os; walk = f; left = plan; room_left = room; further = p; is_plan = refl; is_room = refl }

pub planned_none : {t plan : List ℕ} {room : ℕ} → Planned t [] plan room → (plan ≡ []) × (room ≡ 0)
planned_none nothing = (refl, refl)

-- the fields at these offsets
unfoldable pub copied : List ℕ → List ℕ → List ℕ
copied t os = joined (map (field_at t) os)

-- ---- joining

pub joined_append : (xs ys : List (List ℕ)) → joined (xs ++ ys) ≡ joined xs ++ joined ys
joined_append [] ys = refl
joined_append (x ∷ xs) ys = ap (λ z. x ++ z) (joined_append xs ys) ∙ sym (append_assoc x (joined xs) (joined ys))

pub copied_append : (t os us : List ℕ) → copied t (os ++ us) ≡ copied t os ++ copied t us
unfolding copied
copied_append t os us = ap joined (map-append (field_at t) os us) ∙ joined_append (map (field_at t) os) (map (field_at t) us)

condition_fields_lem : (cs : List (Condition Occurrence)) → joined (map condition_field cs) ≡ condition_fields cs
condition_fields_lem [] = refl
condition_fields_lem (c ∷ cs) = ap (λ z. condition_field c ++ z) (condition_fields_lem cs)

rule_fields_lem : (rs : List (Rule Occurrence)) (rest : List ℕ) → joined (map rule_field rs) ++ rest ≡ rule_fields rs rest
rule_fields_lem [] rest = refl
rule_fields_lem (r ∷ rs) rest = append_assoc (rule_field r) (joined (map rule_field rs)) rest ∙ ap (λ z. rule_field r ++ z) (rule_fields_lem rs rest)

-- ---- one production

-- a condition's body has at most 11 bytes
whole_key : (c : Condition Occurrence) → key_in 11 (condition_field c) ≡ condition_bytes c
whole_key (range o l h) = refl
whole_key (atmost o u none) = refl
whole_key (atmost o u (some c)) = refl

abbrev cost : Production → ℕ
cost p = 1 + (length p.rules + length p.conditions)

record ProductionPlan (t : List ℕ) (e : Entry) : Type 0 where
  offsets : List ℕ
  fields : Fields t (e.offset + 3 + size_at t e.offset) offsets
  bytes : copied t (plan_of t e.offset offsets) ≡ field 3 (production_bytes (production_of e)) ++ rule_fields (arranged rule_key (production_of e).rules) (condition_fields (arranged condition_bytes (production_of e).conditions))
  few : 1 + uses t offsets ≤ cost (production_of e)

module _ (g : Grammar) (t : List ℕ) (e : Entry) (end : ℕ) (s : StretchAt t e end) (w : WellFormedProduction g (production_of e)) where
  abbrev rs : List (Rule Occurrence)
  rs = (production_of e).rules

  abbrev cs : List (Condition Occurrence)
  cs = (production_of e).conditions

  module _ (k : Walked t (e.offset + 3 + size_at t e.offset) (production_of e).rules (production_of e).conditions) where
    abbrev rules_plan : List ℕ
    rules_plan = gathered (key_at 2 t) [] (tagged t 4 k.offsets)

    abbrev conditions_plan : List ℕ
    conditions_plan = gathered (key_at 11 t) [] (tagged t 5 k.offsets)

    rules_planned : map (field_at t) rules_plan ≡ map rule_field (arranged rule_key rs)
    unfolding key_at
    rules_planned = gathered_as (field_at t) rule_field (key_in 2) (tagged t 4 k.offsets) rs k.rules (keyed_rules g (production_of e) w)

    conditions_planned : map (field_at t) conditions_plan ≡ map condition_field (arranged condition_bytes cs)
    unfolding key_at
    conditions_planned =
        gathered_as (field_at t) condition_field (key_in 11) (tagged t 5 k.offsets) cs k.conditions (λ x y i j q. keyed_conditions g (production_of e) w x y i j (sym (whole_key x) ∙ (q ∙ whole_key y)))
        ∙ (λ i. map condition_field (arranged (λ c. whole_key c i) cs))

    plan_bytes : field_at t e.offset ≡ field 3 (production_bytes (production_of e)) → copied t (plan_of t e.offset k.offsets) ≡ field 3 (production_bytes (production_of e)) ++ rule_fields (arranged rule_key rs) (condition_fields (arranged condition_bytes cs))
    unfolding copied plan_of
    plan_bytes h =
        ap₂ ◌++◌ h
        (ap joined (map-append (field_at t) rules_plan conditions_plan ∙ ap₂ ◌++◌ rules_planned conditions_planned)
        ∙ (joined_append (map rule_field (arranged rule_key rs)) (map condition_field (arranged condition_bytes cs))
        ∙ (ap (λ z. joined (map rule_field (arranged rule_key rs)) ++ z) (condition_fields_lem (arranged condition_bytes cs))
        ∙ rule_fields_lem (arranged rule_key rs) (condition_fields (arranged condition_bytes cs)))))

    plan_few : 1 + uses t k.offsets ≤ cost (production_of e)
    unfolding uses
    plan_few = omega (arith, length-map (tagged t 4 k.offsets) (field_at t), ap length k.rules, length-map rs rule_field, length-map (tagged t 5 k.offsets) (field_at t), ap length k.conditions, length-map cs condition_field)

  production_plan : ProductionPlan t e
  production_plan =
      let f = field_at_lem t e.offset 3 (production_bytes (production_of e)) (s.body ++ s.rest) s.is_here in
      let k = walked s.own t s.rest (e.offset + 3 + size_at t e.offset) f.is_next s.over in
      record { offsets = k.offsets; fields = k.fields; bytes = plan_bytes k f.is_field_value; few = plan_few k }

-- ---- the productions

record Plan (t : List ℕ) (es : List Entry) : Type 0 where
  plan : List ℕ
  room : ℕ
  planned : Planned t (map (λ e. e.offset) es) plan room
  bytes : copied t plan ≡ production_fields (map house_production (map production_of es))
  few : room ≤ total (map cost (map production_of es))

module _ (g : Grammar) (t : List ℕ) where
  plans : (es : List Entry) → ((p : ℕ) → p < length es → (end : ℕ) × StretchAt t (get_or es p no_entry) end) → ((e : Entry) → In e es → WellFormedProduction g (production_of e)) → Plan t es
  unfolding copied
  plans [] s w = record { plan = []; room = 0; planned = nothing; bytes = refl; few = omega arith }
  plans (e ∷ es) s w =
      let h = s 0 (omega arith) in
      let p = production_plan g t e h.0 h.1 (w e (inl refl)) in
      let later = plans es (λ n l. s (suc n) (omega arith)) (λ x i. w x (inr i)) in
      let first : List ℕ = plan_of t e.offset p.offsets in
      let pb : List ℕ = field 3 (production_bytes (production_of e)) in
      let body : List ℕ = rule_fields (arranged rule_key (production_of e).rules) (condition_fields (arranged condition_bytes (production_of e).conditions)) in
      record {
        plan = first ++ later.plan;
        room = 1 + uses t p.offsets + later.room;
        planned = next e.offset p.fields later.planned;
        bytes = copied_append t first later.plan ∙ (ap₂ ◌++◌ p.bytes later.bytes ∙ append_assoc pb body (production_fields (map house_production (map production_of es))));
        few = omega (arith, p.few, later.few);
      }

-- ---- the table

costs : (ps : List Production) → total (map cost ps) ≡ length ps + (total (map (λ p. length p.rules) ps) + total (map (λ p. length p.conditions) ps))
costs [] = refl
costs (p ∷ ps) = omega (arith, costs ps)

joins_front : (xs ys zs rest : List ℕ) → (xs ++ (ys ++ zs)) ++ rest ≡ xs ++ (ys ++ (zs ++ rest))
joins_front xs ys zs rest = append_assoc xs (ys ++ zs) rest ∙ ap (λ z. xs ++ z) (append_assoc ys zs rest)

-- what the writer goes by: where the productions begin, and the plan from there on
pub record TablePlan (t : List ℕ) (s : State) : Type 0 where
  pub plan : List ℕ
  pub room : ℕ
  pub planned : Planned t (map (λ e. e.offset) (reverse s.entries)) plan room
  pub few : room ≤ 1664
  pub some : (0 < length s.entries) × (length s.entries ≤ productions_limit)
  pub inside : get_or (map (λ e. e.offset) (reverse s.entries)) 0 0 ≤ length t
  pub bytes : take (get_or (map (λ e. e.offset) (reverse s.entries)) 0 0) t ++ copied t plan ≡ house_bytes (grammar_of s)

pub table_plan : (t : List ℕ) (s : State) → Bytes t → read_table t ≡ well_formed s → TablePlan t s
table_plan t s b e =
    let g : Grammar = grammar_of s in
    let es : List Entry = reverse s.entries in
    let w = read_well_formed t s e in
    let p = plans g t es (λ n l. (get_or (map (λ d. d.offset) es) (suc n) (length t), read_stretch t s b e n (omega (arith, length-reverse s.entries)))) (λ x i. w.each (production_of x) (in_map production_of es x i)) in
    let n : length g.productions ≡ length s.entries = length-map es production_of ∙ length-reverse s.entries in
    let some : (0 < length s.entries) × (length s.entries ≤ productions_limit) = (omega (arith, w.productions), omega (arith, w.productions)) in
    let at : productions_at s ≡ get_or (map (λ d. d.offset) es) 0 (length t) = first_offset (read_stretches t s b e) (length t) (read_length t s b e) in
    let o : get_or (map (λ d. d.offset) es) 0 0 ≡ productions_at s = map_at (λ d. d.offset) es 0 no_entry 0 (omega (arith, length-reverse s.entries)) ∙ (sym (map_at (λ d. d.offset) es 0 no_entry (length t) (omega (arith, length-reverse s.entries))) ∙ sym at) in
    let ws : List ℕ = carrying_fields g.carrying in
    let front : List ℕ = field 1 (header_bytes g) ++ (counts_fields g.counts ++ ws) in
    let rest : List ℕ = drop (productions_at s) t in
    let whole : t ≡ front ++ rest = read_front t s b e ∙ sym (joins_front (field 1 (header_bytes g)) (counts_fields g.counts) ws rest) in
    let l : length front ≡ productions_at s = omega (arith, ap length whole, length-append front rest, read_length t s b e) in
    record {
      plan = p.plan;
      room = p.room;
      planned = p.planned;
      few = omega (arith, p.few, costs g.productions, w.rules, w.conditions, w.productions);
      some = some;
      inside = omega (arith, o, read_length t s b e);
      bytes = ap₂ ◌++◌ (ap₂ take o whole ∙ take_at front rest (productions_at s) l) p.bytes ∙ joins_front (field 1 (header_bytes g)) (counts_fields g.counts) ws (production_fields (map house_production g.productions));
    }
