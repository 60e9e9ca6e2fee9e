-- The leaders with one more value, and the numbers that the check has found.
use Rattle.std.specs.Prelude.{ℕ, ◌-◌, ◌≤◌, ◌≡◌, true, List, [], ◌∷◌, length, set, ℤ}
use Rattle.std.proofs.Common.{arith, sym, ap, ◌∙◌, length-append}
use Rattle.meaning.specs.Base.{keep}
use Rattle.meaning_window.specs.Window.{after, leaders_of, size_in_value, held_in, next_in, slots_in, well_kept, past_window}
use Rattle.theory_window.specs.Ring.{grown, length_grown}
use Rattle.theory_window.specs.Leaders.{stays, leaders_push}
use Rattle.theory_window.specs.Kept.{leaders_few}
use Rattle.theory_window.specs.Next.{leaders_with}
use Rattle.theory_window.specs.FormByParts.{passed, kept_held, kept_next, kept_slots}
use Rattle.window_found.specs.Checks.{KnownWhereKept, new_leaders}
use Rattle.window_found.specs.declared.Found.{Found}
use Rattle.window_push.specs.Parts.{ValueBrought}

module _ (b : List ℤ) (kept : well_kept b ≡ true) (v : ℤ) where
  abbrev n : ℕ
  n = size_in_value b

  abbrev h : ℕ
  h = held_in b

  abbrev k : ℕ
  k = next_in b

  abbrev s : List ℤ
  s = slots_in b

  abbrev new : List ℕ
  new = new_leaders b (size_in_value b) v

  pub new_leaders_lem : new_leaders b (size_in_value b) v ≡ leaders_with (slots_in b) (next_in b) v (leaders_of (size_in_value b) (held_in b) (next_in b) (slots_in b))
  new_leaders_lem = ap (leaders_with s k v) (passed b kept).leaders

  pub few_leaders : length (new_leaders b (size_in_value b) v) ≤ size_in_value b
  few_leaders =
      let e : length new ≡ length (leaders_of n (grown n h) (after n k) (set s k v)) = ap length (new_leaders_lem ∙ sym (leaders_push n h k (kept_held b (passed b kept)) (kept_next b (passed b kept)) s (kept_slots b (passed b kept)) v)) in
      omega (arith, leaders_few n (grown n h) (after n k) (set s k v) (length_grown n h (kept_held b (passed b kept))))

  some_leaders : 1 ≤ length (new_leaders b (size_in_value b) v)
  some_leaders = omega (arith, ap length new_leaders_lem, length-append (keep (stays s k v) (leaders_of n h k s)) (k ∷ []))

  pub brought : (f : Found) (cells : List ℕ) → KnownWhereKept b v f cells → ValueBrought b f v cells
  brought f cells w =
      let size : f.size ≡ n = ap (λ x. x.size) w.found in
      let held : f.held ≡ h = ap (λ x. x.held) w.found in
      let next : f.next ≡ k = ap (λ x. x.next) w.found in
      let from : f.from ≡ past_window - length new = ap (λ x. x.from) w.found in
      record {
        known = w;
        most = omega (arith, (passed b kept).most);
        long = omega (arith, (passed b kept).long);
        place = omega (arith, kept_held b (passed b kept));
        slot = omega (arith, kept_next b (passed b kept));
        from = omega (arith, some_leaders);
        few = omega (arith, some_leaders, few_leaders, (passed b kept).most);
      }
