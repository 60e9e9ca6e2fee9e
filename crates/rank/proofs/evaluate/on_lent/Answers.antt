use native.Mathlib.Omega.{arith}
use Rattle.run_fit.specs.HasProgram.{header_inside}
use Rattle.rank.specs.evaluate.Ran.{narrow_as, flat_as, opened_as_lem, left_as}
use Rattle.rank.proofs.evaluate.on_lent.Goals as goal

pub word_at-requires : goal.word_at-requires
word_at-requires c = omega (arith, header_inside c.requires.2.shown)

pub returns-then-registers-word_at : goal.returns-then-registers-word_at
returns-then-registers-word_at c =
    let w = c.word_at in
    narrow_as c.args.program.now c.args.kinds.now c.args.values.now c.args.registers.now c.args.places.now c.requires.0 c.requires.1 c.requires.4 c.unopened.result (omega (arith, c.if-registers-word_at.true, w.ensures.0)) c.unopened.ensures

pub returns-then-places-eq0 : goal.returns-then-places-eq0
returns-then-places-eq0 c =
    let w = c.word_at in
    flat_as c.args.program.now c.args.kinds.now c.args.values.now c.args.registers.now c.args.places.now c.requires.0 c.requires.1 c.requires.4 c.unopened-then-places-eq0.result
    (omega (arith, c.if-registers-word_at.false, w.ensures.0)) c.if-places-eq0.true c.unopened-then-places-eq0.ensures

pub run_through-requires : goal.run_through-requires
run_through-requires c =
    let o = c.open_again in
    let w = c.word_at in
    let if2 = c.if-places-eq0 in
    let if1 = c.if-registers-word_at in (
      opened_as_lem c.args.program.now c.args.kinds.now c.args.values.now c.args.registers.now c.args.places.now c.requires.0 c.requires.1 (omega (arith, if1.false, w.ensures.0)) (omega (arith, if2.false)) o.new.registers o.new.places o.ensures.0 o.ensures.1,
      c.requires.2,
      c.requires.3,
    )

pub returns : goal.returns
returns c =
    let o = c.open_again in
    let w = c.word_at in
    let r = c.run_through in
    let if2 = c.if-places-eq0 in
    let if1 = c.if-registers-word_at in
    left_as c.args.program.now c.args.kinds.now c.args.values.now c.args.registers.now c.args.places.now c.requires.0 c.requires.1 (omega (arith, if1.false, w.ensures.0))
    (omega (arith, if2.false)) o.new.registers o.new.places o.ensures.0 o.ensures.1 r.new.registers r.new.places r.result c.left.result r.ensures c.left.ensures
