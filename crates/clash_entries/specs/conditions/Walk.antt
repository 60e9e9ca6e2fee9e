-- The walk along the fields of a production, from the one after its own on: a state changed by each entry condition.
use Rattle.std.specs.Prelude.{◌≡◌, ℕ, ◌+◌, ◌-◌, ◌<◌, ◌≤◌, Bool, true, false, T, List, length, take, drop, refl}
use Rattle.std.proofs.Common.{arith, ◌∙◌, subst, length-drop}
use Rattle.std.proofs.Math.Path.{sym, ap}
use Rattle.std.proofs.Math.Seq.{drop-drop}
use Rattle.meaning.specs.Limits.{attributes_limit}
use Rattle.meaning.specs.Base.{cons_if}
use Rattle.meaning.specs.Grammar.{Condition, Production}
use Rattle.meaning.specs.Table.{byte}
use Rattle.theory_sets.specs.Intervals.{entry}
use Rattle.theory_base.specs.Members.{from_on}
use Rattle.clash_entries.specs.conditions.EntryConditions.{at_entry, after, field_size, entry_here, condition_here, if_entry, after_field, Stretch, Left, FrontField, left_turn, left_none, stretch_left}

-- the state after all entry conditions of p
abbrev pub after_all : {S : Type 0} → (Condition ℕ → S → S) → Production → S → S
after_all f p s = after f (at_entry p.conditions) s

-- the part of a slice from an index on

-- what is left and what is done give the whole
pub record Going {S : Type 0} (f : Condition ℕ → S → S) (d : List ℕ) (p : Production) (s₀ s : S) (at : ℕ) : Type 0 where
  pub left : Left (drop at d)
  pub done : after f (at_entry left.conditions) s ≡ after_all f p s₀

pub going_start : {S : Type 0} (f : Condition ℕ → S → S) (d : List ℕ) (p : Production) (s : S) (at : ℕ) → at ≡ field_size d → Stretch d p → Going f d p s s at
going_start f d p s at e x = subst (Going f d p s s) (sym e) (record { left = stretch_left d p x; done = refl })

module _ {S : Type 0} {f : Condition ℕ → S → S} {d : List ℕ} {p : Production} {s₀ s : S} {at : ℕ} (w : Going f d p s₀ s at) where
  -- no field is left, or the next production follows
  going_end : (0 < length (drop at d) → byte (drop at d) 0 ≡ 3) → s ≡ after_all f p s₀
  unfolding at_entry
  going_end e = sym (ap (λ cs. after f (at_entry cs) s) (left_none (drop at d) w.left e)) ∙ w.done

  abbrev field : List ℕ
  field = take (length d - at) (drop at d)

  same : field ≡ drop at d
  same = from_on d at

  pub going_done : length d ≤ at → s ≡ after_all f p s₀
  going_done l = going_end (λ m. absurd (omega (arith, m, length-drop at d)))

  pub going_over : byte field 0 ≡ 3 → s ≡ after_all f p s₀
  going_over e = going_end (λ m. sym (ap (λ z. byte z 0) same) ∙ e)

  module _ (l : at < length d) (n : byte field 0 ≡ 3 → ⊥) where
    turn : FrontField (drop at d) w.left.conditions
    turn = left_turn (drop at d) w.left (omega (arith, length-drop at d)) (λ e. n (ap (λ z. byte z 0) same ∙ e))

    pub going_proper : entry_here field ≡ true → T (entry attributes_limit (condition_here field))
    going_proper t = subst (λ z. T (entry attributes_limit (condition_here z))) (sym same) (turn.proper (ap entry_here (sym same) ∙ t))

    pub going_inside : (size : ℕ) → size ≡ field_size field → at + size ≤ length d
    going_inside size e = omega (arith, turn.inside, e, ap field_size same, length-drop at d)

    one_more : (b : Bool) (c : Condition ℕ) (cs : List (Condition ℕ)) → after f (cons_if b c cs) s ≡ after f cs (if_entry b (f c s) s)
    one_more true c cs = refl
    one_more false c cs = refl

    pub going_more : (size : ℕ) → size ≡ field_size field → (s' : S) → s' ≡ after_field f field s → Going f d p s₀ s' (at + size)
    unfolding after_field
    going_more size e s' h =
        let x = turn.next in
        let place : drop (field_size (drop at d)) (drop at d) ≡ drop (at + size) d = drop-drop (field_size (drop at d)) at d ∙ ap (λ k. drop (at + k) d) (sym (e ∙ ap field_size same)) in
        record {
          left = record { rules = x.rules; conditions = x.conditions; body = x.body; rest = x.rest; own = x.own; is_here = sym place ∙ x.is_here; over = x.over; fits = x.fits };
          done =
              ap (after f (at_entry x.conditions)) (h ∙ ap (λ z. after_field f z s) same)
              ∙ sym (one_more (entry_here (drop at d)) (condition_here (drop at d)) (at_entry x.conditions))
              ∙ sym (ap (λ cs. after f cs s) turn.here)
              ∙ w.done;
        }
