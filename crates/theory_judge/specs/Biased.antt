-- A number of 64 bits read with 2 ^ 62 added, so that all that are near 0 are one stretch.
use Rattle.std.specs.Prelude.{ℕ, ◌+◌, ◌-◌, ◌%◌, ◌≤◌, ◌<◌, ◌≡◌, List, true, false, cond, ℤ, negsuc, ◌-ℤ◌}
use Rattle.std.proofs.Common.{arith, sym, ◌∙◌, lt-ltb, le-ltb}
use Rattle.std.proofs.Math.Decide.{dec_lt}
use Rattle.std.proofs.Math.Path.{ap, subst}
use Rattle.std.proofs.Math.IntN.{pos}
use mir.Syntax.{w64}
use mir.Val.{SFits}
use Rattle.meaning.specs.Value.{in_range, mark}
use Rattle.value.specs.Ranged.{ranged, ranged_in, in_ranged}
use Rattle.value.specs.Overflow.{large_out}
use Rattle.theory_judge.specs.Longs.{long_of, long_low, long_high, bits_at, long_at}
use Rattle.theory_judge.specs.Marks.{value_or_zero}

abbrev pub biased : ℕ → ℕ
biased n = (n + 4611686018427387904) % 18446744073709551616

module _ (n : ℕ) (small : n < 18446744073709551616) where
  low_near : n < 4611686018427387904 → (pos (biased n) -ℤ pos 4611686018427387904 ≡ long_of n) × SFits w64 (long_of n)
  low_near l =
      let e : biased n ≡ n + 4611686018427387904 = omega arith in
      (rw (e, le-ltb (n + 4611686018427387904) 4611686018427387904 (omega arith), long_low n (omega arith)) (ap pos (omega arith)), rw (long_low n (omega arith)) (record { sfits = omega arith }))

  high_near : 13835058055282163712 ≤ n → (pos (biased n) -ℤ pos 4611686018427387904 ≡ long_of n) × SFits w64 (long_of n)
  high_near l =
      let e : biased n ≡ n - 13835058055282163712 = omega arith in
      (rw (e, lt-ltb (n - 13835058055282163712) 4611686018427387904 (omega arith), long_high n (omega arith)) (ap negsuc (omega arith)), rw (long_high n (omega arith)) (record { sfits = omega arith }))

  pub near : biased n < 9223372036854775808 → (pos (biased n) -ℤ pos 4611686018427387904 ≡ long_of n) × SFits w64 (long_of n)
  near h = go (dec_lt n 4611686018427387904)
    where
      go : Dec (n < 4611686018427387904) → (pos (biased n) -ℤ pos 4611686018427387904 ≡ long_of n) × SFits w64 (long_of n)
      go (yes l) = low_near l
      go (no l) = high_near (omega arith)

  pub far : 9223372036854775808 ≤ biased n → in_range (long_of n) ≡ false
  far h = go (dec_lt n 9223372036854775808)
    where
      go : Dec (n < 9223372036854775808) → in_range (long_of n) ≡ false
      go (yes l) = ap in_range (long_low n l) ∙ large_out (pos n) (omega arith)
      go (no l) = ap in_range (long_high n (omega arith)) ∙ large_out (negsuc (18446744073709551615 - n)) (omega arith)

-- what is far is no value, so the mark stands for it
far_ranged : (y : ℤ) → in_range y ≡ false → ranged mark ≡ ranged y
far_ranged y e = sym (ap (λ b. cond b y mark) e)

module _ (z y : ℤ) (same : ranged z ≡ ranged y) where
  pub in_same : in_range z ≡ in_range y
  in_same = sym (in_ranged z) ∙ (ap in_range same ∙ in_ranged y)

  pub or_zero_value : in_range z ≡ true → z ≡ value_or_zero y
  or_zero_value e =
      let i : in_range y ≡ true = sym in_same ∙ e in
      sym (ranged_in z e) ∙ (same ∙ (ranged_in y i ∙ sym (ap (λ b. cond b y (pos 0)) i)))

  pub or_zero_none : in_range z ≡ false → pos 0 ≡ value_or_zero y
  or_zero_none e = sym (ap (λ b. cond b y (pos 0)) (sym in_same ∙ e))

-- the same of what stands at a place: n is what was read, b is that with 2 ^ 62 added
module _ (bytes : List ℕ) (at n b : ℕ) (small : n < 18446744073709551616) (read : n ≡ bits_at bytes at) (added : b ≡ (n + 4611686018427387904) % 18446744073709551616) where
  pub near_at : b < 9223372036854775808 → (pos b -ℤ pos 4611686018427387904 ≡ long_at bytes at) × SFits w64 (long_at bytes at)
  unfolding long_at
  near_at h = let x = near n small (omega arith) in (ap (λ k. pos k -ℤ pos 4611686018427387904) added ∙ (x.0 ∙ ap long_of read), subst (λ k. SFits w64 (long_of k)) read x.1)

  pub far_at : 9223372036854775808 ≤ b → ranged mark ≡ ranged (long_at bytes at)
  unfolding long_at
  far_at h = far_ranged (long_at bytes at) (ap (λ k. in_range (long_of k)) (sym read) ∙ far n small (omega arith))
