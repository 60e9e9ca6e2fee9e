-- A signed local holds bits: a value that it holds is read back.
use Rattle.std.proofs.Common.{◌≡◌, true, ℤ, ap, ◌∙◌, to_z-of_z, w64, SFits, to_z, of_z}
use Rattle.meaning.specs.Value.{in_range}
use Rattle.value.proofs.Bits.{held}

pub valued : {z y : ℤ} → SFits w64 z → z ≡ y → in_range z ≡ true → (to_z w64 (of_z w64 z) ≡ y) × (in_range (to_z w64 (of_z w64 z)) ≡ true)
valued f e i = (held f e, ap in_range (to_z-of_z f) ∙ i)

pub in_held : (z : ℤ) → SFits w64 z → in_range z ≡ true → in_range (to_z w64 (of_z w64 z)) ≡ true
in_held z f i = ap in_range (to_z-of_z f) ∙ i
