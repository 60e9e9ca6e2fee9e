-- The cells outside the stretch: no inner call writes one, and no later inner call reads one.
use Rattle.std.specs.Prelude.{ℕ, ◌≤◌, min, ◌≡◌, refl, Bool, true, false, List, length, drop}
use Rattle.std.proofs.Common.{arith, sym, ap, ap₂, ◌∙◌, subst, drop_of_length-le}
use Rattle.std.proofs.Math.Decide.{dec_le}
use Rattle.std.proofs.lemmas.List.{length-replicate}
use Rattle.meaning.specs.Limits.{registers_limit, places_limit}
use Rattle.meaning.specs.Grammar.{Grammar}
use Rattle.meaning.specs.Judgement.{Accepted}
use Rattle.meaning.specs.Value.{mark}
use Rattle.meaning.specs.Machine.{Lent, opening}
use Rattle.meaning.specs.Calls.{running, closed, Kind, outer, inner, Record, Stacks, refused, table_refused, lent_of, lay_all}
use Rattle.meaning.specs.PublicCalls.{call_of, area_length, written, Effect, performs}
use Rattle.meaning_inner.specs.Inner.{register_base, place_base, above, below, paste, cleared, with_status, with_kind, alone, beginning, InnerCall, engine_call, ends, after_inner, InnerEffect, inner_effect, inner_opens, inner_performs}
use Rattle.meaning_statements.specs.CallStatements.{past_lent}
use Rattle.meaning_statements.specs.InnerStatements.{both_back, left_over, OpeningCase, short, bad_outer, outer_closed, is_third, unfit, bad_inner, no_register, no_place, is_opened, opening_effect}
use Rattle.meaning_statements.specs.InnerStatements.{Belongs, InnerCase, too_short, bad_table, either_closed, apart, by_engine, stretch_call, called_by, inner_call_effect, only_above, InnerNeverWritten, InnerNeverRead}
use Rattle.theory_table.specs.AcceptedTable.{accepted_well_formed}
use Rattle.theory_answers.specs.Called.{called_is}
use Rattle.theory_inner.specs.Stretch.{Fills, pasted_size, paste_lent, paste_above, paste_below, past_registers_lem, past_places_lem, above_registers, above_places}
use Rattle.theory_inner.specs.Slices.{capped_at, capped, above_capped, below_capped, paste_capped}
use Rattle.theory_inner.specs.OpenRunKept.{SameSize, opening_size, call_leaves}
use Rattle.theory_inner.specs.Cases.{inner_openings}
use Rattle.theory_inner.specs.Calling.{alone_runs, inner_calls}

-- ---- a part of the stretch's size, put back wherever it begins

fills : (k : Kind) (m part : Stacks) → SameSize (above k m) part → Fills (capped m k) m part
fills outer m part z = record { register_room = omega arith; place_room = omega arith; registers = z.registers ∙ above_registers outer m; places = z.places ∙ above_places outer m }
fills (inner rb pb) m part z = record {
  register_room = omega arith;
  place_room = omega arith;
  registers = z.registers ∙ (above_registers (inner rb pb) m ∙ omega arith);
  places = z.places ∙ (above_places (inner rb pb) m ∙ omega arith);
}

-- past the cap, where both are alike past what is lent
past_cap : {A : Type 0} (cap : ℕ) (xs ys : List A) → length ys ≡ length xs → drop (min (length xs) cap) ys ≡ drop (min (length xs) cap) xs → drop cap ys ≡ drop cap xs
past_cap cap xs ys s e = go (dec_le cap (length xs))
  where
    go : Dec (cap ≤ length xs) → drop cap ys ≡ drop cap xs
    go (yes l) = let q : min (length xs) cap ≡ cap = omega arith in subst (λ j. drop j ys ≡ drop j xs) q e
    go (no l) = drop_of_length-le ys {i = cap} (omega (arith, s)) ∙ sym (drop_of_length-le xs {i = cap} (omega arith))

module _ (k : Kind) (m part : Stacks) (z : SameSize (above k m) part) where
  abbrev c : Kind
  c = capped m k

  abbrev now : Stacks
  now = paste c part m

  now_is : now ≡ paste k part m
  now_is = paste_capped m k part

  begins_there : capped now k ≡ c
  begins_there = ap (λ (l : Lent). capped_at l k) (paste_lent c m part (fills k m part z))

  pub put_above : above k (paste k part m) ≡ part
  put_above = ap (above k) (sym now_is) ∙ (sym (above_capped now k) ∙ (ap (λ d. above d now) begins_there ∙ paste_above c m part (fills k m part z)))

  pub put_below : below k (paste k part m) ≡ below k m
  put_below = ap (below k) (sym now_is) ∙ (sym (below_capped now k) ∙ (ap (λ d. below d now) begins_there ∙ (paste_below c m part (fills k m part z) ∙ below_capped m k)))

  pub put_past : past_lent (paste k part m) ≡ past_lent m
  put_past =
      let f = fills k m part z in
      let a = past_cap registers_limit m.registers now.registers (pasted_size (lent_of m).max_registers (register_base c) m.registers part.registers (omega arith) f.register_room f.registers) (past_registers_lem c m part f) in
      let b = past_cap places_limit m.places now.places (pasted_size (lent_of m).max_places (place_base c) m.places part.places (omega arith) f.place_room f.places) (past_places_lem c m part f) in
      ap past_lent (sym now_is) ∙ ap₂ (λ x y. record { registers = x; places = y }) a b

-- ---- what a call leaves: the stacks as they were, or with a part put back

pub data Put (k : Kind) (m : Stacks) : Stacks → Type 0 where
  untouched : Put k m m
  put : (part : Stacks) → SameSize (above k m) part → Put k m (paste k part m)

unwritten : (k : Kind) (m s : Stacks) → Put k m s → (below k s ≡ below k m) × (past_lent s ≡ past_lent m)
unwritten k m s untouched = (refl, refl)
unwritten k m s (put part z) = (put_below k m part z, put_past k m part z)

opened_put : (program : Grammar → List ℕ) (outer_table inner_table area : List ℕ) (r : Record) (m : Stacks) (y : OpeningCase outer_table inner_table area r m) → Put (beginning r) m (opening_effect program outer_table inner_table area r m y).stacks
opened_put program outer_table inner_table area r m (short l) = untouched
opened_put program outer_table inner_table area r m (bad_outer l n f j) = untouched
opened_put program outer_table inner_table area r m (outer_closed l g a e) = untouched
opened_put program outer_table inner_table area r m (is_third l g a e o) = untouched
opened_put program outer_table inner_table area r m (unfit l g a o e) = untouched
opened_put program outer_table inner_table area r m (bad_inner g x n f j) = untouched
opened_put program outer_table inner_table area r m (no_register g x h a l) = untouched
opened_put program outer_table inner_table area r m (no_place g x h a k l) = untouched
opened_put program outer_table inner_table area r m (is_opened g x h a k l) = put (lay_all h (opening h) (left_over r m)) (opening_size h (left_over r m) k l)

cleared_size : (m : Stacks) → SameSize m (cleared m)
cleared_size m = record { registers = length-replicate (length m.registers) mark; places = length-replicate (length m.places) 0 }

-- the engine's call keeps the stretch's size
module _ (program : Grammar → List ℕ) (bs area : List ℕ) (o i : Record) (c : InnerCall) where
  pub engine_size : (m : Stacks) → area_length ≤ length area → (g : Grammar) → Accepted bs g → Belongs o i → SameSize (above i.kind m) (stretch_call program bs area i m c).stacks
  engine_size m l g a b =
      let w = (call_leaves g (accepted_well_formed bs g a) i.tokens i.moves i.register_height i.place_height (above i.kind m) (engine_call c)).1 in
      let q = called_is program bs g a area l (alone i) (above i.kind m) (λ h. call_of h (alone i) (above i.kind m) (engine_call c)) in
      subst (λ (z : Effect). SameSize (above i.kind m) z.stacks) (sym q) (subst (λ r. SameSize (above i.kind m) (call_of g r (above i.kind m) (engine_call c)).stacks) (sym (alone_runs o i b)) w)

  after_put : (m : Stacks) (e : Effect) → SameSize (above i.kind m) e.stacks → (x : Bool) → Put i.kind m (after_inner x o i m (called_by e)).stacks
  after_put m e z true = put (cleared (above i.kind m)) (cleared_size (above i.kind m))
  after_put m e z false = put e.stacks z

  call_put : (m : Stacks) (y : InnerCase bs area o i) → Put i.kind m (inner_call_effect program bs area o i m c y).stacks
  call_put m (too_short l) = untouched
  call_put m (bad_table l n f j) = untouched
  call_put m (either_closed l g a e) = untouched
  call_put m (apart l g a d e n) = untouched
  call_put m (by_engine l g a b) = let e = stretch_call program bs area i m c in after_put m e (engine_size m l g a b) (ends c (called_by e))

  -- what a call does, from the stretch alone
  abbrev from_stretch : Bool → Effect → Stacks → InnerEffect
  from_stretch true e s = both_back e.answer (with_status running o) (with_kind i.kind (with_status closed e.state)) (cleared s) e.area
  from_stretch false e s = both_back e.answer o (with_kind i.kind e.state) e.stacks e.area

  from_stretch_lem : (m : Stacks) (e : Effect) → SameSize (above i.kind m) e.stacks → (x : Bool) → only_above i.kind (inner_effect (after_inner x o i m (called_by e)) e.area) ≡ from_stretch x e (above i.kind m)
  from_stretch_lem m e z true = ap (λ s. both_back e.answer (with_status running o) (with_kind i.kind (with_status closed e.state)) s e.area) (put_above i.kind m (cleared (above i.kind m)) (cleared_size (above i.kind m)))
  from_stretch_lem m e z false = ap (λ s. both_back e.answer o (with_kind i.kind e.state) s e.area) (put_above i.kind m e.stacks z)

  module _ (m n : Stacks) (same : above i.kind m ≡ above i.kind n) where
    alike : (y : InnerCase bs area o i) → only_above i.kind (inner_call_effect program bs area o i m c y) ≡ only_above i.kind (inner_call_effect program bs area o i n c y)
    alike (too_short l) = ap (λ s. both_back (refused 30 0) o i s area) same
    alike (bad_table l k f j) = ap (λ s. both_back (table_refused k f) o i s area) same
    alike (either_closed l g a e) = ap (λ s. both_back (refused 33 0) o i s (written (program g) area)) same
    alike (apart l g a d e k) = ap (λ s. both_back (refused 34 0) o i s (written (program g) area)) same
    alike (by_engine l g a b) =
        let e = stretch_call program bs area i m c in
        let f = stretch_call program bs area i n c in
        let q : e ≡ f = ap (λ s. performs program bs area (alone i) s (engine_call c)) same in
        from_stretch_lem m e (engine_size m l g a b) (ends c (called_by e))
        ∙ (ap₂ (λ (z : Effect) s. from_stretch (ends c (called_by z)) z s) q same ∙ sym (from_stretch_lem n f (engine_size n l g a b) (ends c (called_by f))))

pub inner_never_written : InnerNeverWritten
inner_never_written = (opens, later)
  where
    opens : (program : Grammar → List ℕ) (outer_table inner_table area : List ℕ) (r : Record) (m : Stacks) → let s = (inner_opens program outer_table inner_table area r m).stacks in (below (beginning r) s ≡ below (beginning r) m) × (past_lent s ≡ past_lent m)
    opens program outer_table inner_table area r m =
        let y = inner_openings program outer_table inner_table area r m in
        unwritten (beginning r) m _ (subst (λ e. Put (beginning r) m e.stacks) (sym (y.1 y.0).1) (opened_put program outer_table inner_table area r m y.0))

    later : (program : Grammar → List ℕ) (bs area : List ℕ) (o i : Record) (m : Stacks) (c : InnerCall) → let s = (inner_performs program bs area o i m c).stacks in (below i.kind s ≡ below i.kind m) × (past_lent s ≡ past_lent m)
    later program bs area o i m c =
        let y = inner_calls program bs area o i m c in
        unwritten i.kind m _ (subst (λ e. Put i.kind m e.stacks) (sym (y.1 y.0).1) (call_put program bs area o i c m y.0))

pub inner_never_read : InnerNeverRead
inner_never_read program bs area o i m n c same =
    let x = inner_calls program bs area o i m c in
    let y = inner_calls program bs area o i n c in
    ap (only_above i.kind) (x.1 x.0).1 ∙ (alike program bs area o i c m n same x.0 ∙ sym (ap (only_above i.kind) (y.1 x.0).1))
