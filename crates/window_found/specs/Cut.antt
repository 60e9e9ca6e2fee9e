-- The cells of the slots and of the leaders, as the code cuts them out of a buffer of size n.
use Rattle.std.specs.Prelude.{ℕ, ◌+◌, ◌-◌, ◌*◌, ◌≤◌, ◌≡◌, List, length, take, drop, ℤ}
use Rattle.std.proofs.Common.{arith, ap, length-take, length-drop}
use Rattle.meaning_window.specs.Window.{window_limit}

module _ (b : List ℤ) (n : ℕ) (most : n ≤ window_limit) (long : 5 + 2 * n ≤ length b) where
  abbrev pub slots_part : List ℤ
  slots_part = take (5 + n - 5) (drop 5 b)

  abbrev pub area_part : List ℤ
  area_part = take (5 + 2 * n - (5 + n)) (drop (5 + n) b)

  pub slots_part_lem : slots_part ≡ take n (drop 5 b)
  slots_part_lem =
      let e : 5 + n - 5 ≡ n = omega arith in
      ap (λ m. take m (drop 5 b)) e

  pub area_part_lem : area_part ≡ take n (drop (5 + n) b)
  area_part_lem =
      let e : 5 + 2 * n - (5 + n) ≡ n = omega arith in
      ap (λ m. take m (drop (5 + n) b)) e

  pub slots_part_long : length slots_part ≡ n
  slots_part_long = omega (arith, length-take (5 + n - 5) (drop 5 b), length-drop 5 b)

  pub area_part_long : length area_part ≡ n
  area_part_long = omega (arith, length-take (5 + 2 * n - (5 + n)) (drop (5 + n) b), length-drop (5 + n) b)
