use native.Mathlib.Omega.{arith}
use Rattle.table_sound_items.proofs.Walking.{sounding_start, sounding_rule, sounding_condition}
use Rattle.table_sound_items.proofs.walk.Goals as goal

pub loop-at-init : goal.loop-at-init
loop-at-init c = sounding_start _ _ _ _ _ _ c.requires.0 c.requires.1 c.requires.2

pub loop-at-preserved-in-4 : goal.loop-at-preserved-in-4
loop-at-preserved-in-4 c = sounding_rule _ _ _ _ _ _ _ _ _ _ c.loop-at.invariant (omega arith) _ _ (omega arith) c.in-Some.ensures.stands

pub loop-at-preserved : goal.loop-at-preserved
loop-at-preserved c = sounding_condition _ _ _ _ _ _ _ _ _ _ c.loop-at.invariant (omega arith) _ (omega arith) c.in-Some-past_condition.ensures
