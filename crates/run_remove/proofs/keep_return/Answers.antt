use Prim.Native.Nat.{◌*◌, ◌%◌}
use native.Mathlib.Omega.{arith}
use lib.ListN.{length-set}
use Rattle.run_moves.specs.Returns.{returns_set}
use Rattle.run_remove.proofs.keep_return.Goals as goal

pub bounds-returns-k-then-k-returns : goal.bounds-returns-k-then-k-returns
bounds-returns-k-then-k-returns c = let a = c.args in omega (arith, c.if-k-returns.true, length-set a.returns.now (2 * (a.height % 16)) a.place)

pub returns-then-k-returns : goal.returns-then-k-returns
returns-then-k-returns c = λ ws old new. let a = c.args in returns_set ws a.returns.now (a.height % 16) a.place a.at c.if-k-returns.true old new

pub returns-else-k-returns : goal.returns-else-k-returns
returns-else-k-returns c = λ ws old new. old
