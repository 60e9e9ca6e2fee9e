use native.Mathlib.Omega.{arith}
use mathlib.Core.Path.{◌∙◌}
use mir.Syntax.{w64}
use mir.Facts.{to_z-of_z}
use borrow.Author.Rules.{sfits_of}
use Rattle.rank_report.specs.Report.{report_ranged, reported}
use Rattle.rank_report.proofs.report.Goals as goal

pub total-total-requires : goal.total-total-requires
total-total-requires c =
    let s = c in
    let k = c.rank in
    (s.requires.0, omega (arith, s.requires.1, k.auto.list), report_ranged s.args.count s.args.list.now k.new.list s.requires.1 k.ensures s.requires.2)

pub returns : goal.returns
returns c =
    let s = c in
    let k = c.rank in
    reported s.args.count s.args.list.now k.new.list s.requires.1 k.ensures c.valued_count-valued.result _ c.valued_count-valued.ensures (to_z-of_z {w = w64} (sfits_of c.total-total.type_inv) ∙ c.total-total.ensures)
