use Rattle.std.proofs.Common.{ℕ, ◌<◌, sym, ap, ◌∙◌, arith}
use Rattle.outline.specs.Images.{size_at, right_end}
use Rattle.set_words.specs.Views.{members, next_token, next_nonterminal}
use Rattle.analysis.specs.Fronts.{scan_start, scan_token, scan_next, scan_stop, scan_end}
use Rattle.analysis_whole.proofs.first.begins.Goals as goal

pub loop-i-init : goal.loop-i-init
loop-i-init c = scan_start _ _ _ _

pub returns-then-s-lt128 : goal.returns-then-s-lt128
returns-then-s-lt128 c =
    let inside : c.loop-i.i < size_at c.args.rows.now c.args.k = omega (arith, c.size_of-i-end.ensures.0) in
    λ u. ap (λ (x : ℕ). members x u) c.union.ensures.word ∙ scan_token _ _ _ _ _ _ c.loop-i.invariant _ _ _ (next_token c.requires _ _ inside c.symbol_of-s.ensures c.if-s-lt128.true) c.of_token.ensures u

pub returns-then-not-has : goal.returns-then-not-has
returns-then-not-has c =
    let inside : c.loop-i.i < size_at c.args.rows.now c.args.k = omega (arith, c.size_of-i-end.ensures.0) in
    λ u. ap (λ (x : ℕ). members x u) c.union-out.ensures.word ∙ scan_stop _ _ _ _ _ _ c.loop-i.invariant _ _ (next_nonterminal c.requires _ _ inside c.symbol_of-s.ensures c.if-s-lt128.false) (sym c.has.ensures ∙ c.if-not-has.true) u

pub loop-i-preserved : goal.loop-i-preserved
loop-i-preserved c =
    let inside : c.loop-i.i < size_at c.args.rows.now c.args.k = omega (arith, c.size_of-i-end.ensures.0) in
    rw c.union-out.ensures.word
    (scan_next _ _ _ _ _ _ c.loop-i.invariant _ _ (next_nonterminal c.requires _ _ inside c.symbol_of-s.ensures c.if-s-lt128.false) (sym c.has.ensures ∙ c.if-not-has.false))

pub returns : goal.returns
returns c =
    let row = c.requires in
    λ u. ap (λ (x : ℕ). members x u) c.union-2.ensures.word ∙ scan_end _ _ _ _ _ _ c.loop-i.invariant (right_end row.image _ row.listed c.loop-i.i (omega (arith, c.size_of-i-end.ensures.0))) u
