use Rattle.std.proofs.Common.{◌≡◌, ℕ, ◌<◌, ap, sym, ◌∙◌, arith, rules, SFits, to_z, to_z-of_z, lt-ltb, le-ltb}
use Rattle.std.proofs.Math.Decide.{dec_lt}
use Rattle.std.proofs.Math.IntN.{negsuc}
use Rattle.std.specs.Int.{w64}
use Rattle.theory_judge.specs.Longs.{long_at, long_of, long_low, long_high}
use Rattle.judge_nodes.proofs.numbers.long_at.Goals as goal

cast : (n : ℕ) → to_z w64 n ≡ long_of n
cast n = go (dec_lt n 9223372036854775808)
  where
    go : Dec (n < 9223372036854775808) → to_z w64 n ≡ long_of n
    go (yes l) = rw (lt-ltb n 9223372036854775808 l) (sym (long_low n l))
    go (no l) = rw (le-ltb n 9223372036854775808 (omega arith)) (ap negsuc (omega arith) ∙ sym (long_high n (omega arith)))

pub returns : goal.returns
unfolding long_at
returns c =
    let f : SFits w64 c.cast_signed.result = search rules in
    to_z-of_z f ∙ (c.cast_signed.ensures ∙ (cast c.bits_at.result ∙ ap long_of c.bits_at.ensures))
