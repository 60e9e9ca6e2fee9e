use native.Mathlib.Omega.{arith}
use Rattle.program_body_words.specs.Schemes as S
use Rattle.program_bodies.proofs.symbols.write_symbols.Goals as goal

pub loop-k-init : goal.loop-k-init
loop-k-init c = S.symbols_start

pub write_symbol-to-requires : goal.write_symbol-to-requires
write_symbol-to-requires c = S.symbol_fits c.loop-k.invariant _ c.row_size-size.ensures.0 (omega arith) c.requires

pub loop-k-preserved : goal.loop-k-preserved
loop-k-preserved c = S.symbols_turn c.loop-k.invariant _ c.row_size-size.ensures.0 (omega arith) c.write_symbol-to.ensures

pub shape_of-area : goal.shape_of-area
shape_of-area c = S.symbols_size c.loop-k.invariant _ c.row_size-size.ensures.0 c.requires

pub returns : goal.returns
returns c = λ x. S.symbols_end c.loop-k.invariant _ c.row_size-size.ensures.0 (omega arith) x
