-- The tests of a buffer, in their order.
use Rattle.std.specs.Prelude.{ℕ, ◌+◌, ◌-◌, ◌*◌, ◌<◌, ◌≤◌, ◌≡◌, refl, Bool, true, false, ◌&&◌, Option, None, List, length, drop, leb, ℤ, ◌+ℤ◌, ◌-ℤ◌}
use Rattle.std.proofs.Common.{arith, ap, ◌∙◌, le-leb}
use Rattle.std.proofs.Math.Path.{sym}
use Rattle.std.proofs.lemmas.Bool.{lt-leb}
use Rattle.meaning.specs.Base.{all}
use Rattle.meaning_window.specs.Window.{value_at, size_in_value, held_in, next_in, total_in, size_fits, place_fits, well_kept, window_limit, past_window}
use Rattle.theory_window.specs.FormByParts.{kept_parts_lem}
use Rattle.theory_window.specs.Lists.{and_left}
use Rattle.theory_window.specs.Parts.{kept_parts, count_in, is_zero, top_at, values_fit, rest_zero}
use Rattle.theory_window.specs.Kept.{place_held, place_next}
use Rattle.theory_window.specs.Next.{leaving_of, leaving_next, leaders_with, top_with}
use Rattle.window_found.specs.Parts as Parts
use Rattle.window_found.specs.Cut as Cut
use Rattle.window_found.specs.Parts.{parts_kept}
use Rattle.window_found.specs.Checks.{checked, ends_same, claimed, values_kept, found_of, found_parts, found_in, new_leaders, Walked, CheckedParts, CheckedIn}
use Rattle.window_found.specs.declared.Numbers.{Numbers}
use Rattle.window_found.specs.declared.Found.{Found}

-- nothing is known of a buffer that fails the test
contradiction : {P : Type 0} {b : Bool} → b ≡ false → b ≡ true → P
contradiction e t = absurd (let z : true ≡ false = sym t ∙ e in let o : ◌≡◌ {A = ℕ} 0 1 = cc in omega arith)

module _ (b : List ℤ) (v : ℤ) (cells : List ℕ) (n : ℕ) (e : n ≡ size_in_value b) where
  by_parts : well_kept b ≡ (size_fits n (length b) && parts_kept b n)
  unfolding kept_parts
  by_parts = sym (kept_parts_lem b) ∙ sym (λ i. size_fits (e i) (length b) && parts_kept b (e i))

  pub size_not : size_fits n (length b) ≡ false → CheckedIn b v None cells
  size_not t =
      let f : well_kept b ≡ false = by_parts ∙ ap (λ x. x && parts_kept b n) t in
      record { answer = sym (ap (λ x. checked x (found_in b v)) f); leaders = contradiction f }

  pub size_met : {r : Option Found} → size_fits n (length b) ≡ true → CheckedParts b n v r cells → CheckedIn b v r cells
  size_met t q =
      let m : parts_kept b n ≡ well_kept b = sym (by_parts ∙ ap (λ x. x && parts_kept b n) t) in
      record {
        answer = q.answer ∙ (λ i. checked (m i) (found_parts b (e i) v));
        leaders = λ k. ends_same (ap (λ j. new_leaders b j v) e) (q.leaders (m ∙ k));
      }

-- ---- the parts of a buffer of size n

module _ (b : List ℤ) (v : ℤ) (cells : List ℕ) (n : ℕ) (most : n ≤ window_limit) (long : 5 + 2 * n ≤ length b) where
  abbrev slots_part : List ℤ
  slots_part = Cut.slots_part b n most long

  abbrev area_part : List ℤ
  area_part = Cut.area_part b n most long

  -- the tests after those of the place and of the number of leaders
  abbrev fits : Numbers → Bool
  fits at = rest_zero at.held slots_part at.count area_part && values_kept slots_part area_part at

  -- the numbers that are read
  abbrev pub numbers : (h k c : ℕ) → ℤ → Numbers
  numbers h k c t = record { held = h; next = k; count = c; total = t }

  chained : (h k c : ℕ) (t : ℤ) → h ≡ held_in b → k ≡ next_in b → c ≡ count_in b → t ≡ total_in b → parts_kept b n ≡ (place_fits n h k && (leb c n && fits (numbers h k c t)))
  chained h k c t eh ek ec et = sym (λ i. place_fits n (eh i) (ek i) && (leb (ec i) n && (rest_zero (eh i) (Cut.slots_part_lem b n most long i) (ec i) (Cut.area_part_lem b n most long i)
      && values_fit (Cut.slots_part_long b n most long i) (eh i) (ek i) (Cut.slots_part_lem b n most long i) (claimed (Cut.area_part_lem b n most long i) (ec i)) (et i))))

  wrong : parts_kept b n ≡ false → CheckedParts b n v None cells
  wrong p = record { answer = sym (ap (λ x. checked x (found_parts b n v)) p); leaders = contradiction p }

  module _ (h k : ℕ) (eh : h ≡ held_in b) (ek : k ≡ next_in b) where
    pub place_not : place_fits n h k ≡ false → CheckedParts b n v None cells
    place_not p = wrong (chained h k (count_in b) (total_in b) eh ek refl refl ∙ ap (λ x. x && (leb (count_in b) n && fits (numbers h k (count_in b) (total_in b)))) p)

    module _ (p : place_fits n h k ≡ true) (c : ℕ) (ec : c ≡ count_in b) where
      pub count_not : n < c → CheckedParts b n v None cells
      count_not l = wrong (chained h k c (total_in b) eh ek ec refl ∙ (λ i. p i && (lt-leb c n l i && fits (numbers h k c (total_in b)))))

      module _ (l : c ≤ n) where
        met : (t : ℤ) → t ≡ total_in b → parts_kept b n ≡ fits (numbers h k c t)
        met t et = chained h k c t eh ek ec et ∙ (λ i. p i && (le-leb c n l i && fits (numbers h k c t)))

        pub rest_not : rest_zero h slots_part c area_part ≡ false → CheckedParts b n v None cells
        rest_not z = wrong (met (total_in b) refl ∙ ap (λ x. x && values_kept slots_part area_part (numbers h k c (total_in b))) z)

        pub values_by : rest_zero h slots_part c area_part ≡ true → (t : ℤ) → t ≡ total_in b → {r : Option Found} → Walked slots_part area_part (numbers h k c t) v r cells → CheckedParts b n v r cells
        values_by z t et q =
            let at : Numbers = numbers h k c t in
            let m : values_kept slots_part area_part at ≡ parts_kept b n = sym (met t et ∙ ap (λ x. x && values_kept slots_part area_part at) z) in
            let u : leaving_of (length slots_part) h (value_at slots_part k) ≡ value_at slots_part k =
            ap (λ j. leaving_of j h (value_at slots_part k)) (Cut.slots_part_long b n most long) ∙ leaving_next n h k slots_part p (and_left (all is_zero (drop h slots_part)) (all is_zero (drop c area_part)) z) in
            let new : leaders_with slots_part k v (claimed area_part c) ≡ new_leaders b n v = (λ i. leaders_with (Cut.slots_part_lem b n most long i) (ek i) v (claimed (Cut.area_part_lem b n most long i) (ec i))) in
            let f : found_of slots_part area_part at v ≡ found_parts b n v = (λ i. record {
              size = Cut.slots_part_long b n most long i;
              held = eh i;
              next = ek i;
              total = et i;
              largest = top_at (Cut.slots_part_lem b n most long i) (Cut.area_part_lem b n most long i) (ec i) 0;
              sum = (ap (λ x. t -ℤ x +ℤ v) u ∙ (λ j. et j -ℤ value_at (Cut.slots_part_lem b n most long j) (ek j) +ℤ v)) i;
              top = top_with (Cut.slots_part_lem b n most long i) (ek i) v (claimed (Cut.area_part_lem b n most long i) (ec i));
              from = past_window - length (new i);
            }) in
            record {
              answer = q.answer ∙ (λ i. checked (m i) (f i));
              leaders = λ y. ends_same new (q.leaders (m ∙ y));
            }

        pub window_part : (t : ℤ) → Parts.Window slots_part area_part (numbers h k c t)
        window_part t = record {
          few = omega (arith, Cut.slots_part_long b n most long);
          alike = Cut.area_part_long b n most long ∙ sym (Cut.slots_part_long b n most long);
          held = omega (arith, Cut.slots_part_long b n most long, place_held n h k p);
          next = omega (arith, Cut.slots_part_long b n most long, place_next n h k p);
          count = omega (arith, Cut.slots_part_long b n most long);
        }
