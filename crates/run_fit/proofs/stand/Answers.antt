use native.Mathlib.Omega.{arith}
use mathlib.Core.Path.{sym, ◌∙◌}
use borrow.Author.Tests.{ne_eqb}
use borrow.Author.Rules.{rules}
use Rattle.run_fit.specs.HasProgram.{header_inside, start_small}
use Rattle.run_fit.proofs.Places.{bottom_none, bottom_other, bottom_waits, bottom_left, bottom_many}
use Rattle.run_fit.proofs.stand.Goals as goal

pub word_at-count-requires : goal.word_at-count-requires
word_at-count-requires c = omega (arith, header_inside c.requires.shown)

pub past_valued-requires : goal.past_valued-requires
past_valued-requires c = (omega arith, omega (arith, c.word_at-count.ensures.0, start_small c.requires.shown))

pub past_marked-at-requires : goal.past_marked-at-requires
past_marked-at-requires c = (omega arith, omega (arith, c.word_at-count.ensures.0, start_small c.requires.shown))

pub returns-then-places-eq1 : goal.returns-then-places-eq1
returns-then-places-eq1 c = λ g h. bottom_left h c.args.registers.now c.args.places.now (omega arith) c.in-32769.is c.if-places-eq1.true c.word_at-count.ensures.0 c.past_valued.ensures

pub returns-else-places-eq1 : goal.returns-else-places-eq1
returns-else-places-eq1 c = λ g h. ne_eqb _ 1 c.if-places-eq1.false ∙ sym (bottom_many h c.args.registers.now c.args.places.now (omega arith) c.in-32769.is c.if-places-eq1.false)

pub returns-in-32768 : goal.returns-in-32768
returns-in-32768 c = λ g h. bottom_waits h c.args.registers.now c.args.places.now (omega arith) c.in-32768.is c.word_at-count.ensures.0 c.past_marked-at.ensures (c.stand_above.ensures g h)

pub returns-then-places-eq0 : goal.returns-then-places-eq0
returns-then-places-eq0 c = λ g h. sym (bottom_none h c.args.registers.now c.args.places.now (omega arith))

pub returns-in_default : goal.returns-in_default
returns-in_default c = λ g h. sym (bottom_other h c.args.registers.now c.args.places.now (omega arith) (search rules) (search rules))
