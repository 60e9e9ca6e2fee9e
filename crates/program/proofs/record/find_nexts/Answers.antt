use Rattle.std.proofs.Common.{arith, ◌≡◌}
use Rattle.program_words.specs.Sections as S
use Rattle.program_words.specs.Nexts.{nexts_start, nexts_turn, nexts_end}
use Rattle.program.proofs.record.find_nexts.Goals as goal

pub loop-p-init : goal.loop-p-init
loop-p-init c = nexts_start

pub left_of-left-requires : goal.left_of-left-requires
left_of-left-requires c = omega (arith, c.requires.1.room)

pub bounds-firsts-left : goal.bounds-firsts-left
bounds-firsts-left c = omega (arith, S.left_few c.requires.1 _ _ (omega arith) c.left_of-left.ensures)

pub bounds-nexts-p : goal.bounds-nexts-p
bounds-nexts-p c = omega (arith, S.count_few c.requires.1)

pub overflow_add-firsts : goal.overflow_add-firsts
overflow_add-firsts c = omega (arith, S.count_few c.requires.1)

pub overflow_cast-firsts : goal.overflow_cast-firsts
overflow_cast-firsts c = omega (arith, S.count_few c.requires.1)

pub bounds-firsts-left-in-loop-p : goal.bounds-firsts-left-in-loop-p
bounds-firsts-left-in-loop-p c = omega (arith, S.left_few c.requires.1 _ _ (omega arith) c.left_of-left.ensures)

pub loop-p-preserved : goal.loop-p-preserved
loop-p-preserved c = nexts_turn c.loop-p.invariant (omega arith) (omega arith) (S.count_few c.requires.1) c.left_of-left.ensures (S.left_few c.requires.1 _ _ (omega arith) c.left_of-left.ensures)

pub returns : goal.returns
returns c = let e : c.loop-p.p ≡ 0 = omega arith in nexts_end (rw e at c.loop-p.invariant)
