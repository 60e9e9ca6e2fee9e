use native.Mathlib.Omega.{arith}
use lib.ListN.{get_or}
use Rattle.table_occurrences.proofs.Laws.{filling_start, filling_more, filled}
use Rattle.table_occurrences.proofs.Noted.{note_made, byte_made}
use Rattle.table_occurrences.proofs.note_of.Goals as goal

pub loop-k-init : goal.loop-k-init
loop-k-init c = filling_start _ _ _ c.begin-note.ensures.zeros

pub output_word-outputs-requires : goal.output_word-outputs-requires
output_word-outputs-requires c = let small = c.requires.1 c.loop-k.k (omega arith) in omega (arith, small, c.wide.ensures.0, c.wide-in-loop-k.ensures.0)

pub loop-k-preserved : goal.loop-k-preserved
loop-k-preserved c =
    filling_more _ _ _ _ c.loop-k.invariant (omega arith) _ (byte_made c.args.inh.now c.args.syn.now (get_or c.args.settled.now c.loop-k.k 0) c.loop-k.k _ _ _ _ c.wide.ensures.0 c.wide-in-loop-k.ensures.0 c.output_word-outputs.ensures.0 c.note_byte.ensures)

pub returns : goal.returns
returns c = note_made c.args.width c.args.inh.now c.args.syn.now c.args.settled.now _ c.requires (filled _ _ _ _ _ c.loop-k.invariant (omega arith))
