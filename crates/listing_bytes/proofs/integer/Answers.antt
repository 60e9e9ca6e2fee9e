use Rattle.listing_bytes.specs.Decimal.{decimal, integral_low, integral_high}
use Rattle.listing_bytes.specs.Written.{◌then◌, wrote_as}
use mathlib.Core.List.{◌∷◌}
use mathlib.Core.Path.{sym, ap, ◌∙◌}
use Rattle.std.proofs.Common.{◌-◌, ◌+◌, suc, ◌≡◌}
use native.Mathlib.Omega.{arith}
use Rattle.listing_bytes.proofs.integer.Goals as goal

pub returns-then-w-lt2147483648 : goal.returns-then-w-lt2147483648
returns-then-w-lt2147483648 c = (wrote_as (sym (integral_low _ c.if-w-lt2147483648.true)) c.number.ensures.0, omega arith)

pub returns : goal.returns
returns c =
    let s = c.args in
    let e : 4294967295 - s.w + 1 ≡ suc (4294967295 - s.w) = omega arith in
    let sign = c.put-p.ensures in
    let digits = c.number-2.ensures.0 in
    (wrote_as (ap (λ n. 45 ∷ decimal n) e ∙ sym (integral_high s.w c.if-w-lt2147483648.false)) (sign then digits), omega (arith, sign.behind))
