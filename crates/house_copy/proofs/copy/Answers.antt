use Rattle.std.proofs.Common.{arith, suc, ◌≡◌, ◌∙◌, ap, ◌+◌, set, get_or}
use Rattle.std.proofs.Math.Seq.{paste, paste-zero, paste-suc}
use Rattle.house_copy.proofs.copy.Goals as goal

pub loop-i-init : goal.loop-i-init
loop-i-init c = paste-zero c.args.out.now c.args.to c.args.bytes.now

pub loop-i-preserved : goal.loop-i-preserved
loop-i-preserved c =
    let l = c.loop-i in
    let e : suc l.i ≡ l.i + 1 = omega arith in
    ap (λ z. set z (c.args.to + l.i) (get_or c.args.bytes.now l.i 0)) l.invariant
    ∙ paste-suc c.args.out.now c.args.to c.args.bytes.now l.i 0 (omega arith) (omega arith)
    ∙ ap (paste c.args.out.now c.args.to c.args.bytes.now) e
