use Rattle.run_moves.specs.Passing.{look_if}
use Rattle.meaning.specs.Machine as Machine
use borrow.Author.Tests.{eq-eqb, ne_eqb}
use mathlib.Core.Path.{sym, ap}
use Rattle.meaning.specs.Sets.{end_number}
use Rattle.run_moves.proofs.unexpected.Goals as goal

pub returns-then-look-eq-END : goal.returns-then-look-eq-END
returns-then-look-eq-END c = sym (ap (λ b. Machine.unexpected (look_if b c.args.look)) (eq-eqb c.args.look end_number c.if-look-eq-END.true))

pub returns-else-look-eq-END : goal.returns-else-look-eq-END
returns-else-look-eq-END c = sym (ap (λ b. Machine.unexpected (look_if b c.args.look)) (ne_eqb c.args.look end_number c.if-look-eq-END.false))
