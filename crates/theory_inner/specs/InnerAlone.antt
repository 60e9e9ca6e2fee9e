-- An inner run beside the run alone that it is: one invariant, kept by every inner call.
use Rattle.std.specs.Prelude.{ℕ, ◌≡◌, refl, Bool, true, false, ◌&&◌, List, [], length, replicate, ltb, eqb}
use Rattle.std.proofs.Common.{sym, ap, ap₂, ◌∙◌, subst}
use Rattle.std.proofs.Math.Dec.{eqb_refl}
use Rattle.meaning.specs.Grammar.{Grammar}
use Rattle.meaning.specs.Rules.{WellFormed}
use Rattle.meaning.specs.Table.{grammar_of}
use Rattle.meaning.specs.Value.{mark}
use Rattle.meaning.specs.Calls.{waiting, closed, inner, Record, Stacks, Called, Answer, more, value, refused, table_refused, as_brought}
use Rattle.meaning.specs.PublicCalls.{Checked, usable, unusable, check, Call, feed, finish, call_of, area_length, written, Effect, effect, performs}
use Rattle.meaning_inner.specs.Inner.{above, paste, cleared, with_status, with_kind, InnerCalled, handed_back, InnerCall, engine, give_up, engine_call, on_stretch, ends, after_inner, inner_of, InnerEffect, inner_effect, inner_performs}
use Rattle.meaning_inner.specs.InnerLists.{Alone, Both, both_of}
use Rattle.theory_base.specs.Members.{T→true}
use Rattle.theory_answers.specs.Answers.{checked_formed}
use Rattle.theory_inner.specs.Stretch.{Fills, above_registers, above_places, paste_above, paste_again, paste_same}
use Rattle.theory_inner.specs.OpenRunKept.{open_record, closed_record_lem, Leaves, goes_on, is_over, SameSize, call_leaves, LeavesOpen, still, nothing_fed}

-- the record of the run alone after an inner call: given up, it counts as closed
abbrev pub closing : Answer → InnerCall → Record → Record
closing (more n) (engine c) s = s
closing (more n) give_up s = with_status closed s
closing (value v n) c s = s
closing (refused k n) c s = s
closing (table_refused k o) c s = s

pub closing_engine : (a : Answer) (c : Call) (s : Record) → closing a (engine c) s ≡ s
closing_engine (more n) c s = refl
closing_engine (value v n) c s = refl
closing_engine (refused k n) c s = refl
closing_engine (table_refused k o) c s = refl

-- a call on a closed record
closed_call : (g : Grammar) (t n h p : ℕ) (m : Stacks) (c : Call) → call_of g (closed_record_lem t n h p) m c ≡ as_brought (refused 33 0) (closed_record_lem t n h p) m
closed_call g t n h p m (feed ks vs) = refl
closed_call g t n h p m finish = refl

-- ---- over the outer run that stopped on m with these numbers; the cells above its heights are cleared

module _ (t₀ n₀ rh ph : ℕ) (m : Stacks) where
  pub data BesideAlone : Both → Alone → Type 0 where
    stands : (t n h p : ℕ) (part : Stacks) → Fills (inner rh ph) m part
        → BesideAlone (record { outer_state = with_status waiting (open_record t₀ n₀ rh ph); inner_state = with_kind (inner rh ph) (open_record t n h p); stacks = paste (inner rh ph) part m }) (record { state = open_record t n h p; stacks = part })
    ended : (t n h p : ℕ) (part : Stacks)
        → BesideAlone (record { outer_state = open_record t₀ n₀ rh ph; inner_state = with_kind (inner rh ph) (closed_record_lem t n h p); stacks = m }) (record { state = closed_record_lem t n h p; stacks = part })

  -- an inner call and the call alone
  abbrev pub Agree : InnerCalled → Called → InnerCall → Type 0
  Agree k a c = (k.answer ≡ a.answer) × BesideAlone (record { outer_state = k.outer_state; inner_state = k.inner_state; stacks = k.stacks }) (record { state = closing a.answer c a.state; stacks = a.stacks })

  abbrev pub AgreeAfter : InnerEffect → Effect → InnerCall → Type 0
  AgreeAfter e a c = (e.answer ≡ a.answer) × BesideAlone (both_of e) (record { state = closing a.answer c a.state; stacks = a.stacks })

  module _ (is_clear : cleared (above (inner rh ph) m) ≡ above (inner rh ph) m) where
    -- cleared cells in place of the inner run's are the stacks as they were
    cleared_part : (part : Stacks) → Fills (inner rh ph) m part → cleared part ≡ above (inner rh ph) m
    cleared_part part f =
        let a : length part.registers ≡ length (above (inner rh ph) m).registers = f.registers ∙ sym (above_registers (inner rh ph) m) in
        let b : length part.places ≡ length (above (inner rh ph) m).places = f.places ∙ sym (above_places (inner rh ph) m) in
        ap₂ (λ x y. record { registers = replicate x mark; places = replicate y 0 }) a b ∙ is_clear

    all_cleared : (part : Stacks) → Fills (inner rh ph) m part → paste (inner rh ph) (cleared (above (inner rh ph) (paste (inner rh ph) part m))) (paste (inner rh ph) part m) ≡ m
    all_cleared part f =
        ap (λ q. paste (inner rh ph) (cleared q) (paste (inner rh ph) part m)) (paste_above (inner rh ph) m part f)
        ∙ (paste_again (inner rh ph) m part f (cleared part)
        ∙ (ap (λ q. paste (inner rh ph) q m) (cleared_part part f) ∙ paste_same (inner rh ph) m))

    module _ (t n h p : ℕ) (part : Stacks) (f : Fills (inner rh ph) m part) where
      abbrev o : Record
      o = with_status waiting (open_record t₀ n₀ rh ph)

      abbrev i : Record
      i = with_kind (inner rh ph) (open_record t n h p)

      abbrev now : Stacks
      now = paste (inner rh ph) part m

      fills_too : (q : Stacks) → SameSize part q → Fills (inner rh ph) m q
      fills_too q z = record { register_room = f.register_room; place_room = f.place_room; registers = z.registers ∙ f.registers; places = z.places ∙ f.places }

      abbrev on : Answer → Record → Stacks → Called
      on a s q = record { answer = a; state = s; stacks = q }

      -- not ended
      on_stands : (t n h p : ℕ) (q : Stacks) → SameSize part q → BesideAlone (record { outer_state = o; inner_state = with_kind (inner rh ph) (open_record t n h p); stacks = paste (inner rh ph) q now }) (record { state = open_record t n h p; stacks = q })
      on_stands t n h p q z = subst (λ w. BesideAlone (record { outer_state = o; inner_state = with_kind (inner rh ph) (open_record t n h p); stacks = w }) (record { state = open_record t n h p; stacks = q })) (sym (paste_again (inner rh ph) m part f q)) (stands t n h p q (fills_too q z))

      -- ended
      on_ended : (t n h p : ℕ) (q : Stacks) → BesideAlone (record { outer_state = open_record t₀ n₀ rh ph; inner_state = with_kind (inner rh ph) (closed_record_lem t n h p); stacks = paste (inner rh ph) (cleared (above (inner rh ph) now)) now }) (record { state = closed_record_lem t n h p; stacks = q })
      on_ended t n h p q = subst (λ w. BesideAlone (record { outer_state = open_record t₀ n₀ rh ph; inner_state = with_kind (inner rh ph) (closed_record_lem t n h p); stacks = w }) (record { state = closed_record_lem t n h p; stacks = q })) (sym (all_cleared part f)) (ended t n h p q)

      by_engine_lem : (c : Call) (a : Answer) (s : Record) (q : Stacks) → Leaves s → SameSize part q → Agree (after_inner (ends (engine c) (on a s q)) o i now (on a s q)) (on a s q) (engine c)
      by_engine_lem c a s q (goes_on t n h p) z =
          let b : Both = record { outer_state = o; inner_state = with_kind (inner rh ph) (open_record t n h p); stacks = paste (inner rh ph) q now } in
          (refl, subst (λ w. BesideAlone b (record { state = w; stacks = q })) (sym (closing_engine a c (open_record t n h p))) (on_stands t n h p q z))
      by_engine_lem c a s q (is_over t n h p) z =
          let b : Both = record { outer_state = open_record t₀ n₀ rh ph; inner_state = with_kind (inner rh ph) (closed_record_lem t n h p); stacks = paste (inner rh ph) (cleared (above (inner rh ph) now)) now } in
          (refl, subst (λ w. BesideAlone b (record { state = w; stacks = q })) (sym (closing_engine a c (closed_record_lem t n h p))) (on_ended t n h p q))

      by_giving_up : (a : Answer) (s : Record) (q : Stacks) → LeavesOpen s → SameSize part q → Agree (after_inner (ends give_up (on a s q)) o i now (on a s q)) (on a s q) give_up
      by_giving_up (more k) s q (still t n h p) z = (refl, on_ended t n h p q)
      by_giving_up (value v k) s q (still t n h p) z = (refl, on_stands t n h p q z)
      by_giving_up (refused k x) s q (still t n h p) z = (refl, on_stands t n h p q z)
      by_giving_up (table_refused k x) s q (still t n h p) z = (refl, on_stands t n h p q z)

      abbrev alone_call : Grammar → InnerCall → Called
      alone_call g c = call_of g (open_record t n h p) part (engine_call c)

      agrees : (g : Grammar) → WellFormed g → (c : InnerCall) → Agree (after_inner (ends c (alone_call g c)) o i now (alone_call g c)) (alone_call g c) c
      agrees g wf (engine c) = let w = call_leaves g wf t n h p part c in by_engine_lem c (alone_call g (engine c)).answer (alone_call g (engine c)).state (alone_call g (engine c)).stacks w.0 w.1
      agrees g wf give_up = let w = call_leaves g wf t n h p part (feed [] []) in by_giving_up (alone_call g give_up).answer (alone_call g give_up).state (alone_call g give_up).stacks (nothing_fed g t n h p part) w.1

      it_belongs : eqb rh rh && eqb ph ph ≡ true
      it_belongs = ap₂ (λ x y. x && y) (T→true (eqb rh rh) (eqb_refl rh)) (T→true (eqb ph ph) (eqb_refl ph))

      inner_is : (g : Grammar) (c : InnerCall) → inner_of g o i now c ≡ after_inner (ends c (alone_call g c)) o i now (alone_call g c)
      inner_is g c =
          ap (λ x. elim x as (λ z. InnerCalled) [ false ↦ handed_back (refused 34 0) o i now | true ↦ after_inner (ends c (on_stretch g i now c)) o i now (on_stretch g i now c) ]) it_belongs
          ∙ ap (λ q. after_inner (ends c (call_of g (open_record t n h p) q (engine_call c))) o i now (call_of g (open_record t n h p) q (engine_call c))) (paste_above (inner rh ph) m part f)

    inner_agrees : (g : Grammar) → WellFormed g → (c : InnerCall) {b : Both} {a : Alone} → BesideAlone b a → Agree (inner_of g b.outer_state b.inner_state b.stacks c) (call_of g a.state a.stacks (engine_call c)) c
    inner_agrees g wf c (stands t n h p part f) = subst (λ k. Agree k (call_of g (open_record t n h p) part (engine_call c)) c) (sym (inner_is t n h p part f g c)) (agrees t n h p part f g wf c)
    inner_agrees g wf c (ended t n h p part) = subst (λ k. Agree (handed_back (refused 33 0) (open_record t₀ n₀ rh ph) (with_kind (inner rh ph) (closed_record_lem t n h p)) m) k c) (sym (closed_call g t n h p part (engine_call c))) (refl, ended t n h p part)

    -- with any table and area
    pub step : (program : Grammar → List ℕ) (bs area : List ℕ) (c : InnerCall) (b : Both) (a : Alone) → BesideAlone b a → AgreeAfter (inner_performs program bs area b.outer_state b.inner_state b.stacks c) (performs program bs area a.state a.stacks (engine_call c)) c
    step program bs area c b a st = go (ltb (length area) area_length) (check bs) refl
      where
        go : (x : Bool) (y : Checked) → check bs ≡ y → AgreeAfter
            (elim x as (λ z. InnerEffect) [
              | true ↦ inner_effect (handed_back (refused 30 0) b.outer_state b.inner_state b.stacks) area
              | false ↦ elim y as (λ z. InnerEffect) [ unusable n k ↦ inner_effect (handed_back (table_refused n k) b.outer_state b.inner_state b.stacks) area | usable s ↦ inner_effect (inner_of (grammar_of s) b.outer_state b.inner_state b.stacks c) (written (program (grammar_of s)) area) ]
            ])
            (elim x as (λ z. Effect) [
              | true ↦ effect (as_brought (refused 30 0) a.state a.stacks) area
              | false ↦ elim y as (λ z. Effect) [ unusable n k ↦ effect (as_brought (table_refused n k) a.state a.stacks) area | usable s ↦ effect (call_of (grammar_of s) a.state a.stacks (engine_call c)) (written (program (grammar_of s)) area) ]
            ]) c
        go true y e = (refl, st)
        go false (unusable n k) e = (refl, st)
        go false (usable s) e = inner_agrees (grammar_of s) (checked_formed bs s e) c st
