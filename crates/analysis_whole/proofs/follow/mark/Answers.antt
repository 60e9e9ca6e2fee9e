use native.Mathlib.Omega.{arith}
use Rattle.outline.specs.Images.{symbol_terminal, symbol_nonterminal}
use Rattle.analysis.specs.Tables.{added_none}
use Rattle.analysis_whole.proofs.follow.mark.Goals as goal

pub returns-then-s-lt128 : goal.returns-then-s-lt128
returns-then-s-lt128 c = let token = symbol_terminal c.args.s c.if-s-lt128.true in record { table = rw token (added_none _ _ _); edges = rw token (added_none _ _ _) }

pub add-requires : goal.add-requires
add-requires c = (omega (arith, c.requires.0), c.requires.1)

pub add-requires-2 : goal.add-requires-2
add-requires-2 c = (omega (arith, c.requires.0), c.requires.2)

pub returns : goal.returns
returns c =
    let own = symbol_nonterminal c.args.s c.if-s-lt128.false in
    record { table = rw own c.add.ensures; edges = rw own c.add-2.ensures }
