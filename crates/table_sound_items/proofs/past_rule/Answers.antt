use mathlib.Core.Path.{refl, subst}
use native.Mathlib.Omega.{arith}
use Rattle.table_counts.proofs.Steps.{part_body}
use Rattle.table_sound_items.specs.Sound.{RuleSound}
use Rattle.table_sound_items.proofs.Fields.{part_rule}
use Rattle.table_sound_items.proofs.past_rule.Goals as goal

pub is_rule-requires : goal.is_rule-requires
is_rule-requires c =
    let known = c.size_of_rule-size.ensures c.if-size-eq0.false in
    let body = part_body c.args.table.now c.args.at c.size_of_rule-size.result in
    part_rule c.args.table.now c.args.at c.size_of_rule-size.result (c.stands.ensures c.if-not-stands.false) _ body c.wide.result c.wide.ensures.0 known.0 known.1 known.2

pub returns-then-is_rule-clause-stands : goal.returns-then-is_rule-clause-stands
returns-then-is_rule-clause-stands c =
    record {
      few = omega arith;
      size = c.size_of_rule-size.result;
      whole = c.stands.ensures c.if-not-stands.false;
      ends = refl;
      sound = subst (RuleSound c.args.inputs.now _ _) (part_body c.args.table.now c.args.at c.size_of_rule-size.result) (c.is_rule.ensures.sound c.if-is_rule.true);
    }
