-- Words that have all their bits.
use Prim.Native.Nat.{ℕ, ◌+◌, ◌≤◌, ◌<◌}
use mathlib.Core.Path.{◌≡◌, sym, ◌∙◌, ap}
use mathlib.Core.List.{List}
use mathlib.Core.Logic.{⊎_elim}
use native.Mathlib.Omega.{arith}
use lib.Bits.{bit_and, and_le_l, and_le_r}
use lib.ListN.{get_or}
use Rattle.meaning.specs.Limits.{positions_limit, symbols_limit}
use Rattle.table_fields.proofs.Cases.{lt_or_le}
use Rattle.table_sound_items.specs.Sound.{WordsSettled, AllFull}

pub common_below : (a b : ℕ) → a < 65536 → bit_and a b < 65536
common_below a b l = omega (arith, and_le_l a b)

module _ (a b : ℕ) (e : bit_and a b ≡ 65535) where
  pub left_full : a < 65536 → a ≡ 65535
  left_full l = omega (arith, and_le_l a b)

  pub right_full : b < 65536 → b ≡ 65535
  right_full l = omega (arith, and_le_r a b)

module _ (words : List ℕ) where
  full_at : (k i x : ℕ) → x ≡ get_or words i 0 → x ≡ 65535 → k ≡ i → get_or words k 0 ≡ 65535
  full_at k i x e f q = ap (λ (j : ℕ). get_or words j 0) q ∙ sym e ∙ f

  -- four of them
  pub four_full :
      (from a b c d : ℕ) → a ≡ get_or words from 0 → b ≡ get_or words (from + 1) 0 → c ≡ get_or words (from + 2) 0 → d ≡ get_or words (from + 3) 0
      → a < 65536 → b < 65536 → c < 65536 → d < 65536 → bit_and (bit_and a b) (bit_and c d) ≡ 65535 → AllFull words from (from + 4)
  four_full from a b c d is-a is_b is_c is-d la lb lc ld e k l m =
      let low = left_full (bit_and a b) (bit_and c d) e (common_below a b la) in
      let high = right_full (bit_and a b) (bit_and c d) e (common_below c d lc) in
      ⊎_elim
      (λ h. full_at k from a is-a (left_full a b low la) (omega arith))
      (λ h.
      ⊎_elim
      (λ i. full_at k (from + 1) b is_b (right_full a b low lb) (omega arith))
      (λ i. ⊎_elim (λ j. full_at k (from + 2) c is_c (left_full c d high lc) (omega arith)) (λ j. full_at k (from + 3) d is-d (right_full c d high ld) (omega arith)) (lt_or_le k (from + 3)))
      (lt_or_le k (from + 2)))
      (lt_or_le k (from + 1))

  -- all from the third on
  pub others_full :
      (a b c : ℕ) → (a ≡ 65535 → AllFull words 2 6) → (b ≡ 65535 → AllFull words 6 10) → (c ≡ 65535 → AllFull words 9 positions_limit) → a < 65536 → b < 65536 → c < 65536
      → bit_and (bit_and a b) c ≡ 65535 → AllFull words 2 positions_limit
  others_full a b c first second third la lb lc e k l m =
      let two = left_full (bit_and a b) c e (common_below a b la) in
      ⊎_elim
      (λ h. first (left_full a b two la) k l h)
      (λ h. ⊎_elim (λ i. second (right_full a b two lb) k h i) (λ i. third (right_full (bit_and a b) c e lc) k (omega arith) m) (lt_or_le k 10))
      (lt_or_le k 6)

  module _ (width : ℕ) (one : get_or words 0 0 ≡ 65535) where
    -- the word of the left side alone
    pub left_settled : width ≡ 0 → WordsSettled words width
    left_settled z k l = let q : k ≡ 0 = omega arith in ap (λ (j : ℕ). get_or words j 0) q ∙ one

    module _ (two : get_or words 1 0 ≡ 65535) where
      below_two : (k : ℕ) → k < 2 → get_or words k 0 ≡ 65535
      below_two k h =
          ⊎_elim (λ i. let q : k ≡ 0 = omega arith in ap (λ (j : ℕ). get_or words j 0) q ∙ one) (λ i. let q : k ≡ 1 = omega arith in ap (λ (j : ℕ). get_or words j 0) q ∙ two) (lt_or_le k 1)

      -- one symbol on the right
      pub one_settled : width ≡ 1 → WordsSettled words width
      one_settled z k l = below_two k (omega arith)

      -- any number of them
      pub every_settled : width ≤ symbols_limit → AllFull words 2 positions_limit → WordsSettled words width
      every_settled few all k l = ⊎_elim (λ h. below_two k h) (λ h. all k h (omega arith)) (lt_or_le k 2)
