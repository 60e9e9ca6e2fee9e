use native.Mathlib.Omega.{arith}
use Rattle.program_body_words.specs.Laws as L
use Rattle.program_bodies.proofs.symbols.write_add.Goals as goal

pub returns-then-n-eq0 : goal.returns-then-n-eq0
returns-then-n-eq0 c = L.add_not_written _ _ _ (omega arith)

pub bounds-area-address : goal.bounds-area-address
bounds-area-address c = omega (arith, c.requires.1, L.add_some c.args.n (omega arith))

pub returns : goal.returns
returns c = L.add_written _ _ _ _ (omega arith) c.head.ensures
