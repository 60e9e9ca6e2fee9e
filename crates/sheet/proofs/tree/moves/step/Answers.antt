use Prim.Native.Nat.{◌<◌, ◌≤◌}
use native.Mathlib.Omega.{arith}
use lib.IntN.{pos}
use lib.ListN.{length, get_or}
use mir.Facts.{to_z-of_z}
use borrow.Author.Rules.{sfits_of}
use Rattle.theory_program.specs.Addresses.{segment_at}
use Rattle.theory_program.specs.WordsStand.{stands_within}
use Rattle.run_machine.specs.Feeding.{terminals_few}
use Rattle.run_one_move.specs.Facing.{facing}
use Rattle.sheet.specs.tree.moves.NodeInMemory.{four_at_lem, running_of, step_end, step_35, step_20, step_token}
use Rattle.sheet.proofs.tree.moves.step.Goals as goal

pub returns-then-kinds-n : goal.returns-then-kinds-n
returns-then-kinds-n c =
    let l : length c.args.kinds.now ≤ c.args.run.tokens = omega (arith, c.if-kinds-n.true) in
    step_end c.requires.1 c.args.kinds.now c.args.values.now _ _ c.made.result l c.made.ensures

pub returns-then-run-gt-TOKENS_BEFORE : goal.returns-then-run-gt-TOKENS_BEFORE
returns-then-run-gt-TOKENS_BEFORE c =
    let l : c.args.run.tokens < length c.args.kinds.now = omega (arith, c.if-kinds-n.false) in
    step_35 c.requires.1 c.args.kinds.now c.args.values.now l (omega (arith, c.if-run-gt-TOKENS_BEFORE.true))

pub overflow_cast-kind : goal.overflow_cast-kind
overflow_cast-kind c = omega (arith, (c.type_inv.kinds c.args.run.tokens).fits)

pub word_at-requires : goal.word_at-requires
word_at-requires c = omega (arith, stands_within (segment_at c.requires.0.held.begins))

pub returns-then-word_at-kind : goal.returns-then-word_at-kind
returns-then-word_at-kind c =
    let l : c.args.run.tokens < length c.args.kinds.now = omega (arith, c.if-kinds-n.false) in
    step_20 c.requires.1 c.args.kinds.now c.args.values.now l (omega (arith, c.if-run-gt-TOKENS_BEFORE.false)) (omega (arith, c.if-word_at-kind.true, c.word_at.ensures.0))

pub carried-held-requires : goal.carried-held-requires
carried-held-requires c =
    let small : get_or c.args.kinds.now c.args.run.tokens 0 < 64 = omega (arith, terminals_few (running_of c.requires.0), c.if-word_at-kind.false, c.word_at.ensures.0) in
    (omega (arith, stands_within (segment_at c.requires.0.held.begins)), small)

pub made-requires-2 : goal.made-requires-2
made-requires-2 c =
    let small : get_or c.args.kinds.now c.args.run.tokens 0 < 64 = omega (arith, terminals_few (running_of c.requires.0), c.if-word_at-kind.false, c.word_at.ensures.0) in
    let n = c.args.run.tokens in
    let look = c.requires.1 in
    let values = c.args.values.now in
    (rw (to_z-of_z (sfits_of c.carried-held.type_inv), c.carried-held.ensures, to_z-of_z (sfits_of c.carried-arg-1.given)) (facing (running_of c.requires.0) (get_or c.args.kinds.now n 0) (get_or values n (pos 0)) small (four_at_lem values n c.requires.0.four)), omega (arith, look.1), small)

pub returns : goal.returns
returns c =
    let l : c.args.run.tokens < length c.args.kinds.now = omega (arith, c.if-kinds-n.false) in
    let made2 = c.made-2 in
    let if3 = c.if-word_at-kind in
    let word_at = c.word_at in
    let if2 = c.if-run-gt-TOKENS_BEFORE in
    step_token c.requires.1 c.args.kinds.now c.args.values.now l _ _ made2.result (omega (arith, if2.false)) (omega (arith, if3.false, word_at.ensures.0))
    (rw (to_z-of_z (sfits_of c.carried-held.type_inv), c.carried-held.ensures, to_z-of_z (sfits_of c.carried-arg-1.given)) at made2.ensures)
