use Prim.Native.Nat.{◌+◌}
use mathlib.Core.Path.{ap₂}
use lib.Dec.{eqb}
use Rattle.meaning.specs.Grammar.{nonterminal_base}
use Rattle.run_fit.proofs.stands_on.Goals as goal

pub returns : goal.returns
returns c = ap₂ (λ left symbol. eqb (nonterminal_base + left) symbol) c.wait_left.ensures c.wait_symbol.ensures
