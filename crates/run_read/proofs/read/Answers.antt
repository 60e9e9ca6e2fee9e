use Rattle.theory_program.specs.Parts.{head_operand}
use native.Mathlib.Omega.{arith}
use mathlib.Core.Path.{◌≡◌, sym, ap, ◌∙◌}
use lib.ListN.{get_or}
use mir.Facts.{to_z-of_z}
use Rattle.meaning.specs.Calls.{is_mark}
use Rattle.run_moves.specs.Held.{bounds}
use Rattle.run_moves.specs.Passing.{blocked_read}
use Rattle.run_read.proofs.read.Goals as goal

pub word_at-requires : goal.word_at-requires
word_at-requires c = (bounds c.requires.held).inside

pub returns-then-operand-look : goal.returns-then-operand-look
returns-then-operand-look c = λ g lent d h ok.
    let s = c.before.before.before.before.before.before.before in
    let b = s.requires in
    blocked_read h s.args.look s.args.value b.limit b.operation (λ e. c.if-operand-look.true (omega (arith, e, (c.operand.ensures ∙ ap head_operand c.word_at.ensures.0)))) c.unexpected.result c.unexpected.ensures

pub read_value-requires : goal.read_value-requires
read_value-requires c =
    let k = c.before.before.before.before in
    let s = k.before.before.before.before.before.before in
    (s.requires, ap is_mark (to_z-of_z s.ranges.value) ∙ (ap is_mark (sym (to_z-of_z s.ranges.value)) ∙ (sym k.is_mark.ensures ∙ c.if-not-is_mark.true)))

pub returns-then-not-is_mark : goal.returns-then-not-is_mark
returns-then-not-is_mark c =
    let k = c.before.before.before.before.before.before.before.before in
    let s = k.before.before.before.before.before.before in
    let e : head_operand (get_or s.args.program.now s.args.run.at 0) ≡ s.args.look = omega (arith, (c.operand.ensures ∙ ap head_operand c.word_at.ensures.0), k.if-operand-look.false) in
    rw (to_z-of_z s.ranges.value, e) at c.read_value.ensures

pub read_plain-requires : goal.read_plain-requires
read_plain-requires c = let s = c.before.before.before.before.before.before.before.before.before in (s.args.registers.now, s.requires)

pub returns : goal.returns
returns c =
    let k = c.before.before.before.before.before.before in
    let s = k.before.before.before.before.before.before in
    let e : head_operand (get_or s.args.program.now s.args.run.at 0) ≡ s.args.look = omega (arith, (c.operand.ensures ∙ ap head_operand c.word_at.ensures.0), k.if-operand-look.false) in
    rw (e) at (c.read_plain.ensures s.args.registers.now s.args.value (ap is_mark (sym (to_z-of_z s.ranges.value)) ∙ (sym k.is_mark.ensures ∙ c.if-not-is_mark.false)))
