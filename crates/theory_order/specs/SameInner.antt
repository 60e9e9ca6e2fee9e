-- The calls on an inner run under grammars that are the same but for order: the same answer, both records and stacks.
use Rattle.std.specs.Prelude.{ℕ, ◌≡◌, refl, Bool, true, false, ◌||◌, List, length, ltb}
use Rattle.std.proofs.Common.{sym, ap, subst, subst₂}
use Rattle.meaning.specs.Grammar.{Grammar}
use Rattle.meaning.specs.Rules.{WellFormed}
use Rattle.meaning.specs.Table.{grammar_of}
use Rattle.meaning.specs.Judgement.{Accepted}
use Rattle.meaning.specs.Calls.{Gate, admitted, turned_back, gate, is_open, Record, Stacks, Called, refused, table_refused, closed_record, stacks_fit}
use Rattle.meaning.specs.PublicCalls.{Checked, usable, unusable, check, area_length, written}
use Rattle.meaning_inner.specs.Inner.{above, alone, beginning, InnerCalled, handed_back, opened_above, inner_open_of, InnerCall, engine_call, ends, after_inner, is_closed, belongs, inner_of, InnerEffect, inner_effect, by_table, when_outer_fits, inner_opens, inner_performs}
use Rattle.meaning_house.specs.Order.{SameButOrder}
use Rattle.meaning_house.specs.HouseStatements.{SameBothButProgram}
use Rattle.theory_inner.specs.Cases.{by_accepted}
use Rattle.theory_order.specs.SameCalls.{matched, open_same, call_same}

-- the program's words may differ
any_words : (k : InnerCalled) (x y : List ℕ) → SameBothButProgram (inner_effect k x) (inner_effect k y)
any_words k x y = record { answer = refl; outer_state = refl; inner_state = refl; stacks = refl }

same_words : {k l : InnerCalled} → k ≡ l → (x y : List ℕ) → SameBothButProgram (inner_effect k x) (inner_effect l y)
same_words e x y = record { answer = ap (λ z. z.answer) e; outer_state = ap (λ z. z.outer_state) e; inner_state = ap (λ z. z.inner_state) e; stacks = ap (λ z. z.stacks) e }

-- ---- a table's turn

module _ (program : Grammar → List ℕ) (o i : Record) (m : Stacks) where
  abbrev turn : Checked → List ℕ → (Grammar → List ℕ → InnerEffect) → InnerEffect
  turn k area made = elim k as (λ z. InnerEffect) [ unusable n f ↦ inner_effect (handed_back (table_refused n f) o i m) area | usable s ↦ made (grammar_of s) (written (program (grammar_of s)) area) ]

  -- one table, over other words
  one_table : (bs x y : List ℕ) (made : Grammar → List ℕ → InnerEffect) → ((k : Grammar) (u v : List ℕ) → SameBothButProgram (made k u) (made k v)) → SameBothButProgram (by_table program bs x o i m made) (by_table program bs y o i m made)
  one_table bs x y made h = go (check bs)
    where
      go : (k : Checked) → SameBothButProgram (turn k x made) (turn k y made)
      go (unusable n f) = any_words (handed_back (table_refused n f) o i m) x y
      go (usable s) = h (grammar_of s) _ _

  -- two tables that are accepted
  two_tables : (bs cs : List ℕ) (g h : Grammar) → Accepted bs g → Accepted cs h → (area : List ℕ) (made : Grammar → List ℕ → InnerEffect) → ((u v : List ℕ) → SameBothButProgram (made g u) (made h v))
      → SameBothButProgram (by_table program bs area o i m made) (by_table program cs area o i m made)
  two_tables bs cs g h a b area made e = subst₂ SameBothButProgram (sym (by_accepted program bs area o i m made g a)) (sym (by_accepted program cs area o i m made h b)) (e _ _)

-- ---- the judgement of the outer run

abbrev outer_turn : Record → Stacks → Gate → Bool → List ℕ → InnerEffect → InnerEffect
outer_turn r m k b area e = elim k as (λ z. InnerEffect) [
  | turned_back n ↦ inner_effect (handed_back (refused n 0) r closed_record m) area
  | admitted ↦ elim b as (λ z. InnerEffect) [ false ↦ inner_effect (handed_back (refused 34 0) r closed_record m) area | true ↦ e ]
]

turn_same : (r : Record) (m : Stacks) (k : Gate) (b : Bool) (x y : List ℕ) (e f : InnerEffect) → SameBothButProgram e f → SameBothButProgram (outer_turn r m k b x e) (outer_turn r m k b y f)
turn_same r m (turned_back n) b x y e f d = any_words (handed_back (refused n 0) r closed_record m) x y
turn_same r m admitted false x y e f d = any_words (handed_back (refused 34 0) r closed_record m) x y
turn_same r m admitted true x y e f d = d

-- ---- the calls under two grammars

module _ (g h : Grammar) (w : WellFormed g) (s : SameButOrder g h) where
  open_inside : (r : Record) (m : Stacks) → inner_open_of g r m ≡ inner_open_of h r m
  open_inside r m = ap (λ (k : Called). opened_above (is_open k.state) r m k) (open_same g h w s (above (beginning r) m))

  call_inside : (o i : Record) (m : Stacks) (c : InnerCall) → inner_of g o i m c ≡ inner_of h o i m c
  call_inside o i m c = ap by (call_same g h w s (alone i) (above i.kind m) (engine_call c))
    where
      by : Called → InnerCalled
      by k = elim (is_closed o.status || is_closed i.status) as (λ z. InnerCalled) [
        | true ↦ handed_back (refused 33 0) o i m
        | false ↦ elim (belongs o i) as (λ z. InnerCalled) [ false ↦ handed_back (refused 34 0) o i m | true ↦ after_inner (ends c k) o i m k ]
      ]

  outer_fits : (r : Record) (m : Stacks) (x y : List ℕ) (e f : InnerEffect) → SameBothButProgram e f → SameBothButProgram (when_outer_fits g r m x e) (when_outer_fits h r m y f)
  outer_fits r m x y e f d =
      let k : Gate = gate 40 r.status r.kind in
      subst (λ b. SameBothButProgram (outer_turn r m k (stacks_fit g r m) x e) (outer_turn r m k b y f)) ((matched g h w s).fits r m) (turn_same r m k (stacks_fit g r m) x y e f d)

-- ---- the calls as a caller makes them

module _ (program : Grammar → List ℕ) (area : List ℕ) where
  -- what a call makes of an area that is long enough
  by_area_lem : (k : InnerCalled) (e f : InnerEffect) → SameBothButProgram e f → (b : Bool) → SameBothButProgram (elim b as (λ z. InnerEffect) [ true ↦ inner_effect k area | false ↦ e ]) (elim b as (λ z. InnerEffect) [ true ↦ inner_effect k area | false ↦ f ])
  by_area_lem k e f d true = any_words k area area
  by_area_lem k e f d false = d

  module _ (bs cs : List ℕ) (g h : Grammar) (w : WellFormed g) (s : SameButOrder g h) (x : Accepted bs g) (y : Accepted cs h) (m : Stacks) where
    pub outer_same : (inner_table : List ℕ) (r : Record) → SameBothButProgram (inner_opens program bs inner_table area r m) (inner_opens program cs inner_table area r m)
    outer_same inner_table r =
        by_area_lem (handed_back (refused 30 0) r closed_record m) _ _
        (two_tables program r closed_record m bs cs g h x y area
        (λ k first. let e = by_table program inner_table first r closed_record m (λ l second. inner_effect (inner_open_of l r m) second) in when_outer_fits k r m first e)
        (λ u v. outer_fits g h w s r m u v _ _ (one_table program r closed_record m inner_table u v (λ l second. inner_effect (inner_open_of l r m) second) (λ l a b. any_words (inner_open_of l r m) a b))))
        (ltb (length area) area_length)

    pub inner_same : (outer_table : List ℕ) (r : Record) → SameBothButProgram (inner_opens program outer_table bs area r m) (inner_opens program outer_table cs area r m)
    inner_same outer_table r = by_area_lem (handed_back (refused 30 0) r closed_record m) _ _ (go (check outer_table)) (ltb (length area) area_length)
      where
        made : List ℕ → Grammar → List ℕ → InnerEffect
        made table k first = let e = by_table program table first r closed_record m (λ l second. inner_effect (inner_open_of l r m) second) in when_outer_fits k r m first e

        go : (k : Checked) → SameBothButProgram (turn program r closed_record m k area (made bs)) (turn program r closed_record m k area (made cs))
        go (unusable n f) = any_words (handed_back (table_refused n f) r closed_record m) area area
        go (usable z) =
            let first : List ℕ = written (program (grammar_of z)) area in
            turn_same r m (gate 40 r.status r.kind) (stacks_fit (grammar_of z) r m) first first _ _
            (two_tables program r closed_record m bs cs g h x y first (λ l second. inner_effect (inner_open_of l r m) second) (λ u v. same_words (open_inside g h w s r m) u v))

    pub later_same : (o i : Record) (c : InnerCall) → SameBothButProgram (inner_performs program bs area o i m c) (inner_performs program cs area o i m c)
    later_same o i c = by_area_lem (handed_back (refused 30 0) o i m) _ _ (two_tables program o i m bs cs g h x y area (λ k words. inner_effect (inner_of k o i m c) words) (λ u v. same_words (call_inside g h w s o i m c) u v)) (ltb (length area) area_length)
