use Rattle.std.proofs.Common.{rules, ◌≡◌, ◌∙◌, ap, eqb, bit_or}
use Rattle.std.specs.List.{fold}
use Rattle.run_fit.proofs.Tests.{gathered_none}
use Rattle.run_fit.proofs.cells.all_zero.Goals as goal

pub returns : goal.returns
returns c =
    let e : c.fold.result ≡ fold bit_or 0 c.args.cells.now = search rules in
    ap (λ b. eqb b 0) e ∙ gathered_none c.args.cells.now
