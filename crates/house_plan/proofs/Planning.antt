-- The plan as the code makes it, production by production.
use Prim.Native.Nat.{ℕ, ◌+◌, ◌-◌, ◌≤◌, ◌<◌}
use native.Mathlib.Omega.{arith}
use native.Mathlib.Numerals.{add-one}
use mathlib.Core.Path.{◌≡◌, refl, sym, ap, ap₂, subst, ◌∙◌}
use mathlib.Core.List.{List, [], ◌∷◌, ◌++◌, append_assoc, append-nil}
use lib.ListN.{length, get_or, take, drop, set, length-drop, drop_of_length-le}
use lib.Seq.{length-take-le, take-append-add, take-append-le, take-suc-set, drop-cons}
use Rattle.theory_order.specs.Gathering.{gathered}
use Rattle.theory_order.specs.FieldWalk.{size_at, key_at, Fields, tagged}
use Rattle.theory_order.specs.Planning.{plan_of, uses, Planned, NextPlanned, planned_more, planned_none}
use Rattle.house_sort.specs.arrange.Promises.{Room, Gathers}
use Rattle.house_plan.specs.Plans.{GathersBehind, ProductionRoom, ProductionPlanned, TableRoom, TablePlanned}

-- ---- behind the first n offsets

pub length_part : (plan : List ℕ) (n : ℕ) → length (take (length plan - n) (drop n plan)) ≡ length plan - n
length_part plan n = length-take-le (length plan - n) (drop n plan) (omega (arith, length-drop n plan))

take_behind : (plan part rest : List ℕ) (n r : ℕ) → n ≤ length plan → r ≤ length part → take (n + r) (take n plan ++ (part ++ rest)) ≡ take n plan ++ take r part
take_behind plan part rest n r g h =
    let l : length (take n plan) ≡ n = length-take-le n plan g in
    ap (λ k. take (k + r) (take n plan ++ (part ++ rest))) (sym l)
    ∙ (take-append-add (take n plan) (part ++ rest) r ∙ ap (λ z. take n plan ++ z) (take-append-le r part rest h))

module _ (t : List ℕ) (body tag width : ℕ) (plan : List ℕ) (n : ℕ) (part : List ℕ) (r : ℕ) (h : n ≤ length plan) (room : Room t body tag (length plan - n)) (l : length part ≡ length plan - n) (g : Gathers t body tag width part r) where
  pub behind_few : r ≤ length plan - n
  behind_few = omega (arith, (g room.offsets room.fields).1, room.fits)

  pub behind : (rest : List ℕ) → GathersBehind t body tag width plan n (take n plan ++ (part ++ rest)) (n + r)
  behind rest os f = (take_behind plan part rest n r h (omega (arith, behind_few)) ∙ ap (λ z. take n plan ++ z) (g os f).0, omega (arith, (g os f).1))

-- ---- one production

module _ (t : List ℕ) (from n size body : ℕ) (given : ProductionRoom t from n size) (e : body ≡ from + 3 + size_at t from) where
  walked : Fields t body given.fields
  walked = subst (λ z. Fields t z given.fields) (sym e) given.walk

  pub production_fits : n + 1 ≤ size
  production_fits = omega (arith, given.fits)

  pub room_rules : Room t body 4 (size - (n + 1))
  unfolding uses
  room_rules = record { offsets = given.fields; fields = walked; fits = omega (arith, given.fits) }

  module _ (width : ℕ) (plan plan' : List ℕ) (rules : ℕ) (g : GathersBehind t body 4 width plan (n + 1) plan' rules) where
    pub rules_few : rules ≤ size
    unfolding uses
    rules_few = omega (arith, (g given.fields walked).1, given.fits)

    pub room_conditions : Room t body 5 (size - rules)
    unfolding uses
    room_conditions = record { offsets = given.fields; fields = walked; fits = omega (arith, given.fits, (g given.fields walked).1) }

pub production_planned : (t : List ℕ) (from n body : ℕ) → body ≡ from + 3 + size_at t from → (plan plan' plan'' : List ℕ) (rules r : ℕ) → n + 1 ≤ length plan
    → GathersBehind t body 4 2 (set plan n from) (n + 1) plan' rules → GathersBehind t body 5 11 plan' rules plan'' r → ProductionPlanned t from plan n plan'' r
unfolding plan_of uses
production_planned t from n body e plan plan' plan'' rules r l g h os f =
    let w : Fields t body os = subst (λ z. Fields t z os) (sym e) f in
    let x = g os w in
    let y = h os w in
    let rs : List ℕ = gathered (key_at 2 t) [] (tagged t 4 os) in
    let cs : List ℕ = gathered (key_at 11 t) [] (tagged t 5 os) in
    let first : take (n + 1) (set plan n from) ≡ take n plan ++ (from ∷ []) = ap (λ k. take k (set plan n from)) (add-one n) ∙ take-suc-set plan n from (omega arith) in (
      y.0 ∙ (ap (λ z. z ++ cs) (x.0 ∙ (ap (λ z. z ++ rs) first ∙ append_assoc (take n plan) (from ∷ []) rs)) ∙ append_assoc (take n plan) (from ∷ rs) cs),
      omega (arith, x.1, y.1),
    )

-- ---- the productions: what is planned, and what is left

pub record Left (t offsets plan : List ℕ) (n p : ℕ) (goal : List ℕ) (room : ℕ) : Type 0 where
  pub left : List ℕ
  pub room_left : ℕ
  pub further : Planned t (drop p offsets) left room_left
  pub same : take n plan ++ left ≡ goal
  pub few : n + room_left ≤ room

abbrev pub Goes : List ℕ → List ℕ → List ℕ → ℕ → ℕ → Type 0
Goes t offsets plan n p = (goal : List ℕ) (room : ℕ) → Planned t offsets goal room → Left t offsets plan n p goal room

pub goes_start : (t offsets plan : List ℕ) → Goes t offsets plan 0 0
goes_start t offsets plan goal room q = record { left = goal; room_left = room; further = q; same = refl; few = omega arith }

module _ (t offsets plan : List ℕ) (n p from : ℕ) (w : Goes t offsets plan n p) (l : p < length offsets) (e : from ≡ get_or offsets p 0) where
  first_left : drop p offsets ≡ from ∷ drop (p + 1) offsets
  first_left = drop-cons offsets p 0 l ∙ ap₂ (λ x y. x ∷ drop y offsets) (sym e) (sym (add-one p))

  next_left : (goal : List ℕ) (room : ℕ) (q : Planned t offsets goal room) → NextPlanned t from (drop (p + 1) offsets) (w goal room q).left (w goal room q).room_left
  next_left goal room q = planned_more (subst (λ z. Planned t z (w goal room q).left (w goal room q).room_left) first_left (w goal room q).further)

  pub goes_room : (size : ℕ) → TableRoom t offsets size → ProductionRoom t from n size
  goes_room size g =
      let x = w g.plan g.room g.planned in
      let y = next_left g.plan g.room g.planned in
      record { fields = y.fields; walk = y.walk; fits = omega (arith, x.few, y.is_room, g.fits) }

  pub goes_on : (plan' : List ℕ) (r : ℕ) → ProductionPlanned t from plan n plan' r → Goes t offsets plan' r (p + 1)
  goes_on plan' r g goal room q =
      let x = w goal room q in
      let y = next_left goal room q in
      let z = g y.fields y.walk in
      record {
        left = y.left;
        room_left = y.room_left;
        further = y.further;
        same = ap (λ k. k ++ y.left) z.0 ∙ (append_assoc (take n plan) (plan_of t from y.fields) y.left ∙ (ap (λ k. take n plan ++ k) (sym y.is_plan) ∙ x.same));
        few = omega (arith, x.few, y.is_room, z.1);
      }

pub goes_end : (t offsets plan : List ℕ) (n p : ℕ) → Goes t offsets plan n p → length offsets ≤ p → TablePlanned t offsets plan n
goes_end t offsets plan n p w l goal room q =
    let x = w goal room q in
    let none : drop p offsets ≡ [] = drop_of_length-le offsets {i = p} l in
    let y = planned_none (subst (λ z. Planned t z x.left x.room_left) none x.further) in
    (sym (append-nil (take n plan)) ∙ (ap (λ k. take n plan ++ k) (sym y.0) ∙ x.same), omega (arith, x.few))
