use Rattle.listing_bytes.specs.Decimal.{decimal}
use Rattle.listing_lines.specs.Line.{rule_line, function_as, prefix_text}
use Rattle.listing_bytes.specs.Written.{◌then◌, wrote_as}
use mathlib.Core.Path.{ap}
use Rattle.meaning.specs.Listing.{word}
use native.Mathlib.Omega.{arith}
use Rattle.listing_lines.proofs.rule_line.Goals as goal

pub returns : goal.returns
unfolding rule_line function_as prefix_text decimal
returns c =
    let prefix = c.prefix-p.ensures.0 in
    let s = c.args in
    let spaced = wrote_as (ap (λ k. word (decimal k)) c.rule_target.ensures) c.spaced_number-q.ensures.0 in
    let function = wrote_as (λ i. function_as (c.rule_function-f.ensures i) (c.rule_first-a.ensures i) (c.rule_second-b.ensures i) s.constant) c.function-s.ensures.0 in
    let ended = c.put.ensures in
    (prefix then (spaced then function) then ended, omega (arith, ended.behind, c.function-s.ensures.1, c.spaced_number-q.ensures.1, c.prefix-p.ensures.1))
