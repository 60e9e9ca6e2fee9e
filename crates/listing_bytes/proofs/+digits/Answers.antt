use Rattle.std.proofs.Common.{arith, sym, ap, ◌∙◌, length-append, ◌+◌, ◌/◌, ◌%◌, [], ◌∷◌, ◌++◌, length}
use Rattle.listing_bytes.specs.Written.{◌then◌, wrote_as}
use Rattle.listing_bytes.specs.Decimal.{decimal, decimal_one, decimal_more}
use Rattle.listing_bytes.proofs.+digits.Goals as goal

pub put-requires : goal.put-requires
put-requires t c = omega (arith, ap length (decimal_one _ c.if-n-lt10.true), c.requires)

pub returns-then-n-lt10 : goal.returns-then-n-lt10
returns-then-n-lt10 t c = wrote_as (ap (λ d. d ∷ []) c.digit.ensures ∙ sym (decimal_one _ c.if-n-lt10.true)) c.put.ensures

pub digits-p-requires : goal.digits-p-requires
digits-p-requires t c =
    let n = c.args.n in
    let m = decimal_more n c.if-n-lt10.false (omega arith) in
    (omega (arith, c.decreases, c.if-n-lt10.false), omega (arith, ap length m, length-append (decimal (n / 10)) ((48 + n % 10) ∷ []), c.requires))

pub put-requires-2 : goal.put-requires-2
put-requires-2 t c =
    let n = c.args.n in
    let m = decimal_more n c.if-n-lt10.false (omega arith) in
    omega (arith, c.digits-p.ensures.behind, c.digits-p.auto.out, ap length m, length-append (decimal (n / 10)) ((48 + n % 10) ∷ []), c.requires)

pub returns : goal.returns
returns t c =
    let n = c.args.n in
    let m = decimal_more n c.if-n-lt10.false (omega arith) in
    wrote_as (ap (λ x. decimal (n / 10) ++ (x ∷ [])) c.digit-2.ensures ∙ sym m) (c.digits-p.ensures then c.put-2.ensures)
