-- The stretch as the cells that are lent on, and the calls on it.
use Rattle.std.specs.Prelude.{ℕ, ◌-◌, ◌≤◌, min, ◌≡◌, refl, Bool, true, false, ◌||◌, List, ◌++◌, length, take, drop, replicate, T, ltb, ℤ}
use Rattle.std.proofs.Common.{arith, sym, ap, ap₂, ◌∙◌, subst}
use borrow.Rule.Slice.PartMut.{put_mid, Post-is}
use Rattle.meaning.specs.Limits.{registers_limit, places_limit}
use Rattle.meaning.specs.Grammar.{Grammar}
use Rattle.meaning.specs.Value.{mark}
use Rattle.meaning.specs.Machine.{opening}
use Rattle.meaning.specs.Calls.{running, closed, Kind, inner, Record, Stacks, Called, lent_of, lay_all, record_of, closed_record, as_brought, refused, more, is_open, open_of}
use Rattle.meaning.specs.PublicCalls.{stacks_of, call_of}
use Rattle.meaning_inner.specs.Inner.{above, paste, cleared, with_status, with_kind, alone, beginning, InnerCalled, handed_back, opened_above, inner_open_of, InnerCall, engine_call, on_stretch, ends, after_inner, is_closed, belongs, inner_of}
use Rattle.theory_inner.specs.Stretch.{paste_same}
use Rattle.theory_inner.specs.Slices.{above_capped, paste_capped, above_cells, paste_cells}
use Rattle.theory_inner.specs.Calling.{belongs_is}
use Rattle.records.specs.declared.Handed as Code
use Rattle.records.specs.declared.State as Brought
use Rattle.records.specs.Records.{state_is, answer_is, handed_is}
use Rattle.run_lent.specs.declared.Call as EngineCall
use Rattle.run_lent.specs.declared.Call.TheVariants as Engine
use Rattle.run_lent.specs.Performing as Performing
use Rattle.inner.specs.declared.states.InnerHanded as Handed
use Rattle.inner.specs.declared.states.Call as CodeCall
use Rattle.inner.specs.declared.states.Call.TheVariants.{Feed, Finish, GiveUp}
use Rattle.inner.specs.states.Records.{inner_handed_is, call_is, apart_by_value, apart_number, opened_by, opened_from, went_on_from, ended_from, ends_by}

-- ---- the cells

-- n and k cells are lent, the stretch begins at h and p, or where nothing is left
module _ (h p : ℕ) (vs : List ℤ) (ps : List ℕ) (n k a b : ℕ) (en : n ≡ min (length vs) registers_limit) (ek : k ≡ min (length ps) places_limit) (ea : a ≡ min h n) (eb : b ≡ min p k) where
  abbrev m : Stacks
  m = stacks_of vs ps

  abbrev rb : ℕ
  rb = min h (min (length vs) registers_limit)

  abbrev pb : ℕ
  pb = min p (min (length ps) places_limit)

  starts : a ≡ rb
  starts = ea ∙ ap (min h) en

  places_start : b ≡ pb
  places_start = eb ∙ ap (min p) ek

  pub stretch_is_lem : stacks_of (take (n - a) (drop a vs)) (take (k - b) (drop b ps)) ≡ above (inner h p) m
  stretch_is_lem =
      (λ i. stacks_of (take (en i - starts i) (drop (starts i) vs)) (take (ek i - places_start i) (drop (places_start i) ps)))
      ∙ (sym (above_cells m rb pb (omega arith) (omega arith)) ∙ above_capped m (inner h p))

  behind : {A : Type 0} (j e : ℕ) (xs ys : List A) → j ≤ e → put_mid j (e - j) xs ys ≡ take j xs ++ (ys ++ drop e xs)
  behind j e xs ys l = ap (λ z. take j xs ++ (ys ++ z)) (Post-is j e xs l)

  -- the part put back
  pub pasted_is : (ws : List ℤ) (qs : List ℕ) → stacks_of (put_mid a (n - a) vs ws) (put_mid b (k - b) ps qs) ≡ paste (inner h p) (stacks_of ws qs) m
  pasted_is ws qs =
      ap₂ stacks_of (behind a n vs ws (omega (arith, ea))) (behind b k ps qs (omega (arith, eb)))
      ∙ ((λ i. stacks_of (take (starts i) vs ++ (ws ++ drop (en i) vs)) (take (places_start i) ps ++ (qs ++ drop (ek i) ps)))
      ∙ (sym (paste_cells m rb pb (omega arith) (omega arith) (stacks_of ws qs)) ∙ paste_capped m (inner h p) (stacks_of ws qs)))

-- ---- an opening

module _ (g : Grammar) (s : Stacks) where
  abbrev open_by : Bool → Bool → Called
  open_by a c = elim a [ true ↦ as_brought (refused 31 0) closed_record s | false ↦ elim c [ true ↦ as_brought (refused 32 0) closed_record s | false ↦ record { answer = more 0; state = record_of true (opening g); stacks = lay_all g (opening g) s } ] ]

  -- one that is turned back writes nothing
  open_kept : is_open (open_of g s).state ≡ false → (open_of g s).stacks ≡ s
  open_kept = go (ltb (lent_of s).max_registers (length (opening g).registers)) (ltb (lent_of s).max_places 1)
    where
      go : (a c : Bool) → is_open (open_by a c).state ≡ false → (open_by a c).stacks ≡ s
      go true c e = refl
      go false true e = refl
      go false false e = absurd (subst T e tt)

module _ (g : Grammar) (o : Brought.State) (m : Stacks) where
  abbrev from : Kind
  from = beginning (state_is o)

  pub opened_is : (c : Code.Handed) (vs : List ℤ) (ps : List ℕ) → handed_is c vs ps ≡ open_of g (above from m) → (vs' : List ℤ) (ps' : List ℕ) → stacks_of vs' ps' ≡ paste from (stacks_of vs ps) m
      → inner_handed_is (opened_from o c) vs' ps' ≡ inner_open_of g (state_is o) m
  opened_is c vs ps e vs' ps' q =
      go (is_open (state_is c.state)) refl
      ∙ ap (λ (k : Called). opened_above (is_open k.state) (state_is o) m k) e
    where
      go : (b : Bool) → is_open (state_is c.state) ≡ b → inner_handed_is (opened_by b o c) vs' ps' ≡ opened_above b (state_is o) m (handed_is c vs ps)
      go true d = ap (handed_back _ _ _) q
      go false d =
          let kept : stacks_of vs ps ≡ above from m = ap (λ (k : Called). k.stacks) e ∙ open_kept g (above from m) (ap (λ (k : Called). is_open k.state) (sym e) ∙ d) in
          ap (handed_back _ _ _) (q ∙ (ap (λ part. paste from part m) kept ∙ paste_same from m))

module _ (g : Grammar) (o : Brought.State) (vs : List ℤ) (ps : List ℕ) (n k a b : ℕ) (en : n ≡ min (length vs) registers_limit) (ek : k ≡ min (length ps) places_limit) (ea : a ≡ min o.registers n) (eb : b ≡ min o.places k) where
  pub open_is : (r : Code.Handed) (ws : List ℤ) (qs : List ℕ) → handed_is r ws qs ≡ open_of g (stacks_of (take (n - a) (drop a vs)) (take (k - b) (drop b ps))) → (z : Handed.InnerHanded) → z ≡ opened_from o r
      → inner_handed_is z (put_mid a (n - a) vs ws) (put_mid b (k - b) ps qs) ≡ inner_open_of g (state_is o) (stacks_of vs ps)
  open_is r ws qs e z q =
      let h = o.registers in
      let p = o.places in
      ap (λ y. inner_handed_is y (put_mid a (n - a) vs ws) (put_mid b (k - b) ps qs)) q
      ∙ opened_is g o (stacks_of vs ps) r ws qs (e ∙ ap (open_of g) (stretch_is_lem h p vs ps n k a b en ek ea eb)) (put_mid a (n - a) vs ws) (put_mid b (k - b) ps qs) (pasted_is h p vs ps n k a b en ek ea eb ws qs)

-- ---- a later call

abbrev pub gives_up : CodeCall.Call → Bool
gives_up Feed = false
gives_up Finish = false
gives_up GiveUp = true

-- the engine's own call
abbrev pub engine_call_for : CodeCall.Call → EngineCall.Call
engine_call_for Feed = Engine.Feed
engine_call_for Finish = Engine.Finish
engine_call_for GiveUp = Engine.Feed

pub gave_up : (c : CodeCall.Call) → gives_up c ≡ true → c ≡ GiveUp
gave_up Feed e = absurd (subst T (sym e) tt)
gave_up Finish e = absurd (subst T (sym e) tt)
gave_up GiveUp e = refl

engine_call_lem : (c : CodeCall.Call) → gives_up c ≡ false → (ks : List ℕ) (us : List ℤ) → Performing.call_is (engine_call_for c) ks us ≡ engine_call (call_is c ks us)
engine_call_lem Feed e ks us = refl
engine_call_lem Finish e ks us = refl
engine_call_lem GiveUp e ks us = absurd (subst T e tt)

-- by the call that it is
pub call_by : (g : Grammar) (r : Record) (m : Stacks) (ks : List ℕ) (us : List ℤ) (c d : CodeCall.Call) → c ≡ d → (k : Called) → k ≡ call_of g r m (engine_call (call_is d ks us)) → k ≡ call_of g r m (engine_call (call_is c ks us))
call_by g r m ks us c d e k q = q ∙ ap (λ z. call_of g r m (engine_call (call_is z ks us))) (sym e)

-- by the engine's own, where it does not give up
pub call_by_engine : (g : Grammar) (r : Record) (m : Stacks) (ks : List ℕ) (us : List ℤ) (c : CodeCall.Call) → gives_up c ≡ false → (d : EngineCall.Call) → d ≡ engine_call_for c → (k : Called) → k ≡ call_of g r m (Performing.call_is d ks us) → k ≡ call_of g r m (engine_call (call_is c ks us))
call_by_engine g r m ks us c n d e k q = q ∙ ap (call_of g r m) (ap (λ z. Performing.call_is z ks us) e ∙ engine_call_lem c n ks us)

-- on the stretch alone
abbrev pub stretch_after : Bool → Record → Record → Stacks → Called → InnerCalled
stretch_after true o i s k = handed_back k.answer (with_status running o) (with_kind i.kind (with_status closed k.state)) (cleared s)
stretch_after false o i s k = handed_back k.answer o (with_kind i.kind k.state) k.stacks

abbrev pub stretch_called : Grammar → Record → Record → Stacks → InnerCall → InnerCalled
stretch_called g o i s c = let k = call_of g (alone i) s (engine_call c) in stretch_after (ends c k) o i s k

pub clears : (vs vs₁ vs₂ : List ℤ) (ps ps₁ ps₂ : List ℕ) → vs₂ ≡ replicate (length vs₁) mark → ps₂ ≡ replicate (length ps₁) 0 → length vs₁ ≡ length vs → length ps₁ ≡ length ps → stacks_of vs₂ ps₂ ≡ cleared (stacks_of vs ps)
clears vs vs₁ vs₂ ps ps₁ ps₂ e d h l = ap₂ stacks_of (e ∙ ap (λ n. replicate n mark) h) (d ∙ ap (λ n. replicate n 0) l)

ends_is : (c : CodeCall.Call) (ks : List ℕ) (us : List ℤ) (r : Code.Handed) (vs : List ℤ) (ps : List ℕ) → ends_by c r ≡ ends (call_is c ks us) (handed_is r vs ps)
ends_is Feed ks us r vs ps = refl
ends_is Finish ks us r vs ps = refl
ends_is GiveUp ks us r vs ps = refl

module _ (c : CodeCall.Call) (ks : List ℕ) (us : List ℤ) (o i : Brought.State) (s : Stacks) (r : Code.Handed) (vs : List ℤ) (ps : List ℕ) (k : Called) (e : handed_is r vs ps ≡ k) where
  after : (b : Bool) → ends_by c r ≡ b → stretch_after b (state_is o) (state_is i) s (handed_is r vs ps) ≡ stretch_after (ends (call_is c ks us) k) (state_is o) (state_is i) s k
  after b d =
      ap (λ x. stretch_after x (state_is o) (state_is i) s (handed_is r vs ps)) (sym d ∙ ends_is c ks us r vs ps)
      ∙ ap (λ (z : Called). stretch_after (ends (call_is c ks us) z) (state_is o) (state_is i) s z) e

  pub goes_on_is : ends_by c r ≡ false → (z : Handed.InnerHanded) → z ≡ went_on_from o i r → inner_handed_is z vs ps ≡ stretch_after (ends (call_is c ks us) k) (state_is o) (state_is i) s k
  goes_on_is d z q = ap (λ y. inner_handed_is y vs ps) q ∙ after false d

  pub ended_is : ends_by c r ≡ true → (z : Handed.InnerHanded) → z ≡ ended_from o i r → (ws : List ℤ) (qs : List ℕ) → stacks_of ws qs ≡ cleared s → inner_handed_is z ws qs ≡ stretch_after (ends (call_is c ks us) k) (state_is o) (state_is i) s k
  ended_is d z q ws qs l = ap (λ y. inner_handed_is y ws qs) q ∙ (ap (λ y. handed_back (answer_is r.answer) (state_is (ended_from o i r).outer) (state_is (ended_from o i r).inner) y) l ∙ after true d)

-- ---- with the stretch in its place

abbrev pasted_called : Kind → Stacks → InnerCalled → InnerCalled
pasted_called d m k = handed_back k.answer k.outer_state k.inner_state (paste d k.stacks m)

pasted_after : (b : Bool) (o i : Record) (m : Stacks) (k : Called) → pasted_called i.kind m (stretch_after b o i (above i.kind m) k) ≡ after_inner b o i m k
pasted_after true o i m k = refl
pasted_after false o i m k = refl

module _ (g : Grammar) (o i : Record) (m : Stacks) (c : InnerCall) where
  abbrev inner_by : Bool → Bool → InnerCalled
  inner_by x y = elim x as (λ z. InnerCalled) [
    | true ↦ handed_back (refused 33 0) o i m
    | false ↦ elim y as (λ z. InnerCalled) [ false ↦ handed_back (refused 34 0) o i m | true ↦ after_inner (ends c (on_stretch g i m c)) o i m (on_stretch g i m c) ]
  ]

  pub turned_is : (n : ℕ) → n ≡ apart_number o i → (n ≡ 0 → ⊥) → handed_back (refused n 0) o i m ≡ inner_of g o i m c
  turned_is n e z = go (is_closed o.status || is_closed i.status) (belongs o i) e
    where
      go : (x y : Bool) → n ≡ apart_by_value x y → handed_back (refused n 0) o i m ≡ inner_by x y
      go true y q = ap (λ j. handed_back (refused j 0) o i m) q
      go false false q = ap (λ j. handed_back (refused j 0) o i m) q
      go false true q = absurd (z q)

  together : 0 ≡ apart_number o i → (is_closed o.status || is_closed i.status ≡ false) × (belongs o i ≡ true)
  together = go (is_closed o.status || is_closed i.status) (belongs o i)
    where
      go : (x y : Bool) → 0 ≡ apart_by_value x y → (x ≡ false) × (y ≡ true)
      go true y e = absurd (omega arith)
      go false false e = absurd (omega arith)
      go false true e = (refl, refl)

  pub engine_is : 0 ≡ apart_number o i → after_inner (ends c (on_stretch g i m c)) o i m (on_stretch g i m c) ≡ inner_of g o i m c
  engine_is e = let t = together e in sym (ap₂ inner_by t.0 t.1)

  pub begins_is : 0 ≡ apart_number o i → i.kind ≡ beginning o
  begins_is e = (belongs_is o i (together e).1).begins

module _ (g : Grammar) (o i : Brought.State) (c : InnerCall) (number : 0 ≡ apart_number (state_is o) (state_is i)) (vs : List ℤ) (ps : List ℕ) (n k a b : ℕ)
    (en : n ≡ min (length vs) registers_limit) (ek : k ≡ min (length ps) places_limit) (ea : a ≡ min o.registers n) (eb : b ≡ min o.places k) where
  pub call_is_lem : (z : Handed.InnerHanded) (ws : List ℤ) (qs : List ℕ) → inner_handed_is z ws qs ≡ stretch_called g (state_is o) (state_is i) (stacks_of (take (n - a) (drop a vs)) (take (k - b) (drop b ps))) c
      → inner_handed_is z (put_mid a (n - a) vs ws) (put_mid b (k - b) ps qs) ≡ inner_of g (state_is o) (state_is i) (stacks_of vs ps) c
  call_is_lem z ws qs e =
      let r : Record = state_is o in
      let j : Record = state_is i in
      let m₀ : Stacks = stacks_of vs ps in
      let d : j.kind ≡ beginning r = begins_is g r j m₀ c number in
      let s = stretch_is_lem o.registers o.places vs ps n k a b en ek ea eb ∙ ap (λ x. above x m₀) (sym d) in
      let t = on_stretch g j m₀ c in
      ap (λ x. handed_back (answer_is z.answer) (state_is z.outer) (state_is z.inner) x) (pasted_is o.registers o.places vs ps n k a b en ek ea eb ws qs ∙ ap (λ x. paste x (stacks_of ws qs) m₀) (sym d))
      ∙ (ap (pasted_called j.kind m₀) (e ∙ ap (λ x. stretch_called g r j x c) s)
      ∙ (pasted_after (ends c t) r j m₀ t ∙ engine_is g r j m₀ c number))
