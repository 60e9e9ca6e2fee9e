use Prim.Native.Nat.{◌≤◌, ◌<◌}
use native.Mathlib.Omega.{arith}
use lib.ListN.{length}
use borrow.Author.Rules.{sfits_of}
use Rattle.theory_program.specs.Addresses.{segment_at}
use Rattle.theory_program.specs.WordsStand.{stands_within}
use Rattle.value.proofs.Bits.{held}
use Rattle.sheet.specs.Segments.{ends_value, ended_result, ends_35, ends_20, ends_21}
use Rattle.sheet.proofs.ended.Goals as goal

pub bounds-program-5 : goal.bounds-program-5
bounds-program-5 c = omega (arith, stands_within (segment_at c.requires.held.begins))

pub read-value-requires : goal.read-value-requires
read-value-requires c = ended_result c.requires

pub returns-then-kinds-n : goal.returns-then-kinds-n
returns-then-kinds-n c =
    let l : length c.args.kinds.now ≤ c.args.run.tokens = omega (arith, c.if-kinds-n.true) in
    ends_value c.args.program.now c.args.kinds.now c.args.registers.now c.args.run c.args.end _ l (held (sfits_of c.read-value.type_inv) c.read-value.ensures)

pub returns-then-run-gt-TOKENS_BEFORE : goal.returns-then-run-gt-TOKENS_BEFORE
returns-then-run-gt-TOKENS_BEFORE c =
    let l : c.args.run.tokens < length c.args.kinds.now = omega (arith, c.if-kinds-n.false) in
    rw c.number.ensures (ends_35 c.args.program.now c.args.kinds.now c.args.registers.now c.args.run c.args.end l (omega (arith, c.if-run-gt-TOKENS_BEFORE.true)))

pub word_at-requires : goal.word_at-requires
word_at-requires c = omega (arith, stands_within (segment_at c.requires.held.begins))

pub overflow_cast-kinds : goal.overflow_cast-kinds
overflow_cast-kinds c = omega (arith, (c.type_inv.kinds c.args.run.tokens).fits)

pub returns-then-word_at-kinds : goal.returns-then-word_at-kinds
returns-then-word_at-kinds c =
    let l : c.args.run.tokens < length c.args.kinds.now = omega (arith, c.if-kinds-n.false) in
    rw c.number-then-word_at-kinds.ensures (ends_20 c.args.program.now c.args.kinds.now c.args.registers.now c.args.run c.args.end l (omega (arith, c.if-run-gt-TOKENS_BEFORE.false)) (omega (arith, c.if-word_at-kinds.true, c.word_at.ensures.0)))

pub returns : goal.returns
returns c =
    let l : c.args.run.tokens < length c.args.kinds.now = omega (arith, c.if-kinds-n.false) in
    rw c.number-2.ensures (ends_21 c.args.program.now c.args.kinds.now c.args.registers.now c.args.run c.args.end l (omega (arith, c.if-run-gt-TOKENS_BEFORE.false)) (omega (arith, c.if-word_at-kinds.false, c.word_at.ensures.0)))
