use Prim.Native.Nat.{◌<◌}
use native.Mathlib.Omega.{arith}
use borrow.Author.Rules.{rules}
use lib.Count.{trailing_le}
use Rattle.program_words.specs.Laws as L
use Rattle.program.proofs.directory.mark.Goals.{In-loop-rest}
use Rattle.program.proofs.directory.mark.Goals as goal

-- the set is a word
small : (c : In-loop-rest) → c.args.set.0 < 18446744073709551616
small c = search rules

pub loop-rest-init : goal.loop-rest-init
loop-rest-init c = L.mark_start _ _ _ _

pub overflow_cast-zeros : goal.overflow_cast-zeros
overflow_cast-zeros c = omega (arith, trailing_le 64 c.loop-rest.rest)

pub overflow_add-area : goal.overflow_add-area
overflow_add-area c = omega (arith, L.mark_few c.loop-rest.invariant (omega (arith, small c)) (omega arith), L.mark_room c.loop-rest.invariant (omega (arith, small c)) (omega arith) c.requires)

pub overflow_add-area-in-loop-rest : goal.overflow_add-area-in-loop-rest
overflow_add-area-in-loop-rest c = omega (arith, L.mark_few c.loop-rest.invariant (omega (arith, small c)) (omega arith), L.mark_room c.loop-rest.invariant (omega (arith, small c)) (omega arith) c.requires)

pub offset_bounds-area-from : goal.offset_bounds-area-from
offset_bounds-area-from c = omega (arith, L.mark_few c.loop-rest.invariant (omega (arith, small c)) (omega arith), L.mark_room c.loop-rest.invariant (omega (arith, small c)) (omega arith) c.requires)

pub bounds-area-from : goal.bounds-area-from
bounds-area-from c = L.mark_room c.loop-rest.invariant (omega (arith, small c)) (omega arith) c.requires

pub overflow_shr-rest : goal.overflow_shr-rest
overflow_shr-rest c = omega (arith, L.mark_few c.loop-rest.invariant (omega (arith, small c)) (omega arith), L.mark_room c.loop-rest.invariant (omega (arith, small c)) (omega arith) c.requires)

pub overflow_add-u : goal.overflow_add-u
overflow_add-u c = omega (arith, L.mark_few c.loop-rest.invariant (omega (arith, small c)) (omega arith), L.mark_room c.loop-rest.invariant (omega (arith, small c)) (omega arith) c.requires)

pub overflow_add-u-in-loop-rest : goal.overflow_add-u-in-loop-rest
overflow_add-u-in-loop-rest c = omega (arith, L.mark_few c.loop-rest.invariant (omega (arith, small c)) (omega arith), L.mark_room c.loop-rest.invariant (omega (arith, small c)) (omega arith) c.requires)

pub loop-rest-smaller : goal.loop-rest-smaller
loop-rest-smaller c = L.mark_less c.loop-rest.invariant (omega arith)

pub loop-rest-preserved : goal.loop-rest-preserved
loop-rest-preserved c = L.mark_turn c.loop-rest.invariant (omega (arith, small c)) (omega arith) c.requires

pub shape_of-area : goal.shape_of-area
shape_of-area c = c.loop-rest.invariant.marked.size

pub returns : goal.returns
returns c = L.mark_end c.loop-rest.invariant (omega arith)
