-- Two's complement: constants and bounds in order.
use Prim.Native.Nat.{ℕ, ◌+◌, ◌-◌, ◌%◌, ◌≤◌, ◌<◌}
use mathlib.Core.Path.{◌≡◌, refl, sym, ◌∙◌, ap}
use mathlib.Core.Bool.{Bool, true, false, ◌&&◌, and-false}
use native.Mathlib.Omega.{arith}
use lib.Dec.{leb, ltb}
use lib.IntN.{ℤ, pos, negsuc}
use lib.Signed.{le_z}
use borrow.Author.Tests.{leb-true, leb-false, le-leb, lt-leb, ltb-true, ltb-false}
use Rattle.meaning.specs.Limits.{divisor_limit}
use Rattle.meaning.specs.Table.{signed}
use Rattle.table_rules.specs.Rule.{in_order_value}

-- two tests that mean the same
pub leb_iff : (a b a' b' : ℕ) → (a ≤ b → a' ≤ b') → (a' ≤ b' → a ≤ b) → leb a b ≡ leb a' b'
leb_iff a b a' b' f g = go (leb a b) (leb a' b') refl refl
  where
    go : (x y : Bool) → leb a b ≡ x → leb a' b' ≡ y → x ≡ y
    go true true p q = refl
    go false false p q = refl
    go true false p q = absurd (let h = f (leb-true a b p) in let k = leb-false a' b' q in omega arith)
    go false true p q = absurd (let h = g (leb-true a' b' q) in let k = leb-false a b p in omega arith)

abbrev by_sign : Bool → ℕ → ℤ
by_sign x n = elim x [ true ↦ pos n | false ↦ negsuc (4294967295 - n) ]

module _ (x y : ℕ) (small-x : x < 4294967296) (small-y : y < 4294967296) where
  abbrev lifted : ℕ → ℕ
  lifted n = (n + 2147483648) % 4294967296

  order_by : (s t : Bool) → ltb x 2147483648 ≡ s → ltb y 2147483648 ≡ t → leb (lifted x) (lifted y) ≡ le_z (by_sign s x) (by_sign t y)
  order_by true true p q =
      let h = ltb-true x 2147483648 p in
      let k = ltb-true y 2147483648 q in
      leb_iff (lifted x) (lifted y) x y (λ l. omega arith) (λ l. omega arith)
  order_by true false p q =
      let h = ltb-true x 2147483648 p in
      let k = ltb-false y 2147483648 q in
      lt-leb (lifted x) (lifted y) (omega arith)
  order_by false true p q =
      let h = ltb-false x 2147483648 p in
      let k = ltb-true y 2147483648 q in
      le-leb (lifted x) (lifted y) (omega arith)
  order_by false false p q =
      let h = ltb-false x 2147483648 p in
      let k = ltb-false y 2147483648 q in
      leb_iff (lifted x) (lifted y) (4294967295 - y) (4294967295 - x) (λ l. omega arith) (λ l. omega arith)

  pub order_tested : leb (lifted x) (lifted y) ≡ in_order_value x y
  unfolding in_order_value
  order_tested = order_by (ltb x 2147483648) (ltb y 2147483648) refl refl

-- a divisor from 1 to 1,000,000
divisor_by : (n : ℕ) (s : Bool) → ltb n 2147483648 ≡ s → le_z (pos 1) (by_sign s n) && le_z (by_sign s n) (pos divisor_limit) ≡ leb 1 n && leb n divisor_limit
divisor_by n true p = refl
divisor_by n false p = let h = ltb-false n 2147483648 p in sym (ap (λ x. leb 1 n && x) (lt-leb n divisor_limit (omega arith)) ∙ and-false (leb 1 n))

pub divisor_same : (n : ℕ) → le_z (pos 1) (signed n) && le_z (signed n) (pos divisor_limit) ≡ leb 1 n && leb n divisor_limit
divisor_same n = divisor_by n (ltb n 2147483648) refl
