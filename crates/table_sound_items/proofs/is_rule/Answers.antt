use mathlib.Core.Path.{sym, ◌∙◌, ap}
use native.Mathlib.Omega.{arith}
use Rattle.table_rules.specs.Rule.{length_of}
use Rattle.table_sound_items.proofs.Fields.{length_nine, operands_inside, rule_none}
use Rattle.table_sound_items.proofs.is_rule.Goals as goal

pub divisor_fits-requires : goal.divisor_fits-requires
divisor_fits-requires c = λ e. omega (arith, length_nine c.wide-f.result (omega arith), ap length_of c.wide-f.ensures.0)

pub settle-requires : goal.settle-requires
settle-requires c = (omega arith, omega (arith, operands_inside c.wide-f.result (omega arith), ap length_of c.wide-f.ensures.0))

pub returns-then-divisor_fits-clause-sound : goal.returns-then-divisor_fits-clause-sound
returns-then-divisor_fits-clause-sound c = λ e width inh syn note r small i w l.
    let pre = c.requires in
    let q = c.settle.ensures.settled e width inh syn note small i w in
    (rule_none r width inh syn note c.args.body.now _ c.wide-f.ensures.0 l pre.0 pre.1 pre.2 (sym c.divisor_fits.ensures ∙ c.if-divisor_fits.true) q.0, q.1)
