use Rattle.std.proofs.Common.{arith, sym, ◌∙◌}
use Rattle.listing_bytes.specs.Written.{◌then◌, wrote_as}
use Rattle.listing_lines.specs.Line.{is_range_lem, is_atmost, is_atmost_plus}
use Rattle.listing_lines.proofs.condition.Goals as goal

pub returns-then-kind-eq0 : goal.returns-then-kind-eq0
returns-then-kind-eq0 c =
    let s = c.args in
    (wrote_as (is_range_lem s.w s.low s.high _ c.condition_first-first.ensures (sym c.condition_kind-kind.ensures ∙ c.if-kind-eq0.true)) (c.number_and_constant-p.ensures.0 then c.spaced_integer.ensures.0), omega arith)

pub returns-then-kind-eq1 : goal.returns-then-kind-eq1
returns-then-kind-eq1 c =
    let s = c.args in
    (wrote_as (is_atmost s.w s.low s.high _ c.condition_first-first.ensures _ c.condition_second-second.ensures (sym c.condition_kind-kind.ensures ∙ c.if-kind-eq1.true)) c.two_numbers-p.ensures.0, omega arith)

pub returns : goal.returns
returns c =
    let s = c.args in (
      wrote_as (is_atmost_plus s.w s.low s.high _ c.condition_first-first.ensures _ c.condition_second-second.ensures (λ e. c.if-kind-eq0.false (c.condition_kind-kind.ensures ∙ e))
          (λ e. c.if-kind-eq1.false (c.condition_kind-kind.ensures ∙ e))) (c.two_numbers-p.ensures.0 then c.spaced_integer-2.ensures.0),
      omega arith,
    )
