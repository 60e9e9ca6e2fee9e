use Rattle.std.proofs.Common.{◌<◌, sym, ◌∙◌, arith}
use Rattle.outline.specs.Images.{size_at, right_end, symbol_bytes}
use Rattle.set_words.specs.Views.{next_small, next_token, next_nonterminal}
use Rattle.analysis.specs.Fronts.{heading_start, heading_token, heading_next, heading_stop, heading_end}
use Rattle.analysis_whole.proofs.first.front_of.Goals as goal

pub loop-i-init : goal.loop-i-init
loop-i-init c = heading_start _ _

pub returns-then-s-lt128 : goal.returns-then-s-lt128
returns-then-s-lt128 c =
    let inside : c.loop-i.i < size_at c.args.rows.now c.args.k = omega (arith, c.size_of-i-end.ensures.0) in
    heading_token _ _ _ _ c.loop-i.invariant _ _ _ (next_token c.requires _ _ inside c.symbol_of-s.ensures c.if-s-lt128.true) c.of_token.ensures

pub returns-then-not-has : goal.returns-then-not-has
returns-then-not-has c =
    let inside : c.loop-i.i < size_at c.args.rows.now c.args.k = omega (arith, c.size_of-i-end.ensures.0) in
    let symbol : c.symbol_of-s.result < symbol_bytes = next_small c.requires _ _ inside c.symbol_of-s.ensures in
    rw c.union-heads.ensures.word
    (heading_stop _ _ _ _ c.loop-i.invariant _ _ _ (next_nonterminal c.requires _ _ inside c.symbol_of-s.ensures c.if-s-lt128.false) (omega (arith, symbol)) c.of_nonterminal.ensures (sym c.has.ensures ∙ c.if-not-has.true))

pub loop-i-preserved : goal.loop-i-preserved
loop-i-preserved c =
    let inside : c.loop-i.i < size_at c.args.rows.now c.args.k = omega (arith, c.size_of-i-end.ensures.0) in
    let symbol : c.symbol_of-s.result < symbol_bytes = next_small c.requires _ _ inside c.symbol_of-s.ensures in
    rw c.union-heads.ensures.word
    (heading_next _ _ _ _ c.loop-i.invariant _ _ _ (next_nonterminal c.requires _ _ inside c.symbol_of-s.ensures c.if-s-lt128.false) (omega (arith, symbol)) c.of_nonterminal.ensures (sym c.has.ensures ∙ c.if-not-has.false))

pub returns : goal.returns
returns c =
    let row = c.requires in
    heading_end _ _ _ _ c.loop-i.invariant (right_end row.image _ row.listed c.loop-i.i (omega (arith, c.size_of-i-end.ensures.0)))
