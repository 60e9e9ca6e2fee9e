use Rattle.listing_lines.specs.Line.{rule_line}
use Rattle.listing_bytes.specs.Written.{wrote_as}
use Rattle.theory_program.specs.Unpacked.{rule_from}
use Rattle.listing_text.proofs.rule.Goals as goal

pub returns : goal.returns
returns c =
    let a = c.args.c in
    let at = c.position-k.ensures in
    let first = c.word_or_zero-w.ensures in
    let second = c.word_or_zero-constant.ensures in
    let line = c.rule_line-length.ensures in
    record {
      text = wrote_as (λ i. rule_line a.production (at i) (rule_from (first i) (second i))) line.0;
      short = line.1;
      next = c.go_on-next.ensures;
    }
