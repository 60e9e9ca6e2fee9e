use Rattle.listing_lines.specs.Line.{condition_line}
use Rattle.listing_bytes.specs.Written.{wrote_as}
use Rattle.theory_program.specs.Unpacked.{condition_from}
use Rattle.listing_text.proofs.condition.Goals as goal

pub returns : goal.returns
returns c =
    let a = c.args.c in
    let first = c.word_or_zero-w.ensures in
    let second = c.word_or_zero-low.ensures in
    let third = c.word_or_zero-high.ensures in
    let line = c.condition_line-length.ensures in
    record {
      text = wrote_as (λ i. condition_line a.production a.passed (condition_from (first i) (second i) (third i))) line.0;
      short = line.1;
      next = c.go_on-next.ensures;
    }
