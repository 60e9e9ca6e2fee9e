use Rattle.std.proofs.Common.{◌≡◌, ℕ, ◌+◌, ◌%◌, ◌<◌, true, pos, ◌-ℤ◌, refl, ap, ◌∙◌, arith, to_z-of_z, w64, SFits, to_z}
use Rattle.meaning.specs.Value.{in_range}
use Rattle.meaning.specs.Table.{signed}
use Rattle.value.specs.Constants.{signed_in, unbiased}
use Rattle.value.proofs.Bits.{in_range_fits}
use Rattle.value.proofs.constant.Goals.{After-wrapping_add_u32-biased, Start}
use Rattle.value.proofs.constant.Goals as goal

value : (c : Start) → in_range (signed c.args.word) ≡ true
value c = signed_in c.args.word (omega (arith, c.ranges.word))

fits : (c : Start) → SFits w64 (signed c.args.word)
fits c = in_range_fits (signed c.args.word) (value c)

small_back : (n : ℕ) → n < 4294967296 → to_z w64 n ≡ pos n
small_back n l = to_z-of_z {w = w64} {z = pos n} (record { sfits = omega arith })

difference : (c : After-wrapping_add_u32-biased) → to_z w64 c.wrapping_add_u32-biased.result -ℤ pos 2147483648 ≡ signed c.args.word
difference c =
    let e : c.wrapping_add_u32-biased.result ≡ (c.args.word + 2147483648) % 4294967296 = c.wrapping_add_u32-biased.ensures.value in
    ap (λ z. z -ℤ pos 2147483648) (small_back c.wrapping_add_u32-biased.result (omega arith) ∙ ap pos e) ∙ unbiased c.args.word (omega (arith, c.ranges.word))

pub overflow_sub-result : goal.overflow_sub-result
overflow_sub-result c = rw (difference c) (fits c.before)

pub returns : goal.returns
returns c = rw (difference c, to_z-of_z (fits c.before)) (refl, value c.before)
