use Rattle.std.proofs.Common.{ap, ◌∙◌, take, drop}
use Rattle.theory_sheet.specs.Overlay.{overlay}
use Rattle.sheet.proofs.tree.written.put_four.Goals as goal

pub returns : goal.returns
returns c = c.put_bytes.ensures ∙ ap (λ bs. overlay c.args.at (take 4 (drop 4 bs)) c.args.sheet.now) c.to_be_bytes.ensures
