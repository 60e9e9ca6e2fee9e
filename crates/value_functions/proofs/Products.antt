-- A product is tested before it is made: where one factor is near 0 it fits an i64, and where none is it is no value.
use Prim.Native.Nat.{ℕ, suc}
use native.Mathlib.Omega.{arith}
use mathlib.Core.Path.{◌≡◌}
use mathlib.Core.Bool.{Bool, true, false, ◌&&◌}
use lib.IntN.{ℤ, pos, negsuc, ◌*ℤ◌, *ℤ_comm}
use lib.Signed.{le_z}
use mir.Syntax.{w64}
use mir.Val.{SFits}
use Rattle.meaning.specs.Value.{in_range}
use Rattle.value.specs.Sizes.{mul_at_most, mul_at_least, inside, outside}
use Rattle.value.specs.Overflow.{reach, in_range_size, large_out, fits64}

-- one below the code's NEAR
abbrev limit : ℕ
limit = 999999

abbrev pub near : ℤ → Bool
near z = le_z (negsuc limit) z && le_z z (pos (suc limit))

pub near_left : (a b : ℤ) → near a ≡ true → in_range b ≡ true → SFits w64 (a *ℤ b)
near_left a b p q = fits64 (a *ℤ b) (omega (arith, mul_at_most a b (suc limit) reach (inside a limit (suc limit) (omega arith) p) (in_range_size b q)))

pub near_right : (a b : ℤ) → in_range a ≡ true → near b ≡ true → SFits w64 (a *ℤ b)
near_right a b p q = rw (*ℤ_comm a b) (fits64 (b *ℤ a) (omega (arith, mul_at_most b a (suc limit) reach (inside b limit (suc limit) (omega arith) q) (in_range_size a p))))

pub both_far : (a b : ℤ) → near a ≡ false → near b ≡ false → in_range (a *ℤ b) ≡ false
both_far a b p q = large_out (a *ℤ b) (omega (arith, mul_at_least a b (suc (suc limit)) (suc (suc limit)) (outside a limit p) (outside b limit q)))
