use Rattle.theory_program.specs.Parts.{head_operand}
use mathlib.Core.Path.{ap, ◌∙◌}
use Rattle.run_moves.specs.Moves.{made_add, blocked_add}
use Rattle.run_moves.specs.Held.{bounds}
use native.Mathlib.Omega.{arith}
use Rattle.run_rules.proofs.add.Goals as goal

pub word_at-requires : goal.word_at-requires
word_at-requires c = (bounds c.requires.1.held).inside

pub overflow_sub-registers : goal.overflow_sub-registers
overflow_sub-registers c = (bounds c.requires.1.held).registers

pub returns-then-registers-run : goal.returns-then-registers-run
returns-then-registers-run c = λ ps look g lent d h ok. let b = c.requires.1 in blocked_add h look b.limit b.operation (omega (arith, c.if-registers-run.true, (bounds h).registers, (c.operand-n.ensures ∙ ap head_operand c.word_at.ensures.0)))

pub overflow_add-run : goal.overflow_add-run
overflow_add-run c = omega (arith, (bounds c.requires.1.held).inside)

pub returns : goal.returns
returns c = λ ps look g lent d h ok. let b = c.requires.1 in
    rw (c.counted-next.ensures, (c.operand-n.ensures ∙ ap head_operand c.word_at.ensures.0)) (made_add h look ok b.limit b.operation (omega (arith, c.if-registers-run.false, (bounds h).registers, (c.operand-n.ensures ∙ ap head_operand c.word_at.ensures.0))))
