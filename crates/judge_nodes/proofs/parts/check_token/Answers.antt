use Rattle.std.proofs.Common.{ap, sym, ◌∙◌, true≢false, arith, to_z-of_z, w64}
use Rattle.judge_nodes.specs.parts.Laws as L
use borrow.Author.Rules.{sfits_of}
use Rattle.meaning.specs.Value.{in_range}
use Rattle.judge_nodes.proofs.parts.check_token.Goals as goal

pub returns-then-kinds-from : goal.returns-then-kinds-from
returns-then-kinds-from c = let s = c.args in L.token_over s.kinds.now s.values.now s.at s.from s.symbol (omega arith)

pub returns-then-kinds-from-2 : goal.returns-then-kinds-from-2
returns-then-kinds-from-2 c =
    let s = c.args in
    L.token_other s.kinds.now s.values.now s.at s.from s.symbol (omega arith) c.if-kinds-from-2.true

pub returns-then-not-in_range : goal.returns-then-not-in_range
returns-then-not-in_range c =
    absurd (true≢false (sym (ap in_range (to_z-of_z {w = w64} {z = c.token_value.result} (sfits_of c.token_value.type_inv)) ∙ c.token_value.ensures.1) ∙ (sym c.in_range.ensures ∙ c.if-not-in_range.true)))

pub returns : goal.returns
returns c =
    let s = c.args in
    L.token_fits s.kinds.now s.values.now s.at s.from s.symbol (omega arith) c.if-kinds-from-2.false (ap in_range (sym c.token_value.ensures.0) ∙ c.token_value.ensures.1)
