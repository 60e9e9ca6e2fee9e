use Prim.Native.Nat.{◌+◌, ◌*◌, ◌%◌}
use mathlib.Core.Path.{subst}
use lib.ListN.{get_or}
use Rattle.run_moves.specs.Returns.{ReturnsTo}
use Rattle.run_remove.proofs.onward.Goals as goal

pub returns-then-returns-k : goal.returns-then-returns-k
returns-then-returns-k c =
    let t = c.before.before in
    let u = t.before.before in
    let s = u.before.before.before in
    (subst (λ q. ReturnsTo s.args.program.now q (get_or s.args.returns.now (2 * (s.args.height % 16) + 1) 0)) t.if-returns-k.true (s.requires.1 (s.args.height % 16) u.if-k-returns.true), s.requires.1)

pub keep_return-requires : goal.keep_return-requires
keep_return-requires c = tt

pub returns : goal.returns
returns c =
    let n = c.before.before.before in
    let r = n.before.before in
    let s = r.before.before.before.before in
    (r.resume-at.ensures, n.keep_return.ensures s.args.program.now s.requires.1 r.resume-at.ensures)
