use Rattle.std.proofs.Common.{arith, rules, ◌≡◌, ◌∙◌, ap, get_or, set}
use Rattle.preview.specs.scratch.Scratch.{copied_to, copied_more}
use Rattle.preview.proofs.scratch.copy.Goals as goal

pub loop-i-preserved : goal.loop-i-preserved
loop-i-preserved g c =
    let from = c.args.from.now in
    let to = c.args.to.now in
    let i = c.loop-i.i in
    let x = c.index-from-i.result in
    let read : x ≡ get_or from i x = search rules in
    ap (λ z. set z i x) c.loop-i.invariant ∙ (ap (set (copied_to from to i) i) read ∙ copied_more from to i x (omega arith) (omega arith))

pub returns : goal.returns
returns g c = c.loop-i.invariant ∙ ap (copied_to c.args.from.now c.args.to.now) (omega arith)
