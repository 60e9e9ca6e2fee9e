use Prim.Native.Nat.{◌+◌, ◌-◌}
use mathlib.Core.Path.{refl}
use mathlib.Core.List.{[], ◌∷◌}
use lib.IntN.{pos}
use Rattle.meaning.specs.Sets.{end_number}
use Rattle.run_moves.specs.declared.Halt.TheVariants.{Refused}
use Rattle.run_turn.specs.Stages.{any_taken, went_after, went_went, went_ends}
use Rattle.run_turn.proofs.add_and_evaluate.Goals as goal

pub add_if_at_hand-requires : goal.add_if_at_hand-requires
add_if_at_hand-requires c = c.requires

pub evaluate_if_at_hand-requires : goal.evaluate_if_at_hand-requires
evaluate_if_at_hand-requires c =
    let p = c.requires in
    let n = c.args.run.tokens in
    (p.0, (went_after (any_taken n) p.1 (c.in-Ok.ensures 64 n (end_number ∷ []) (pos 0 ∷ []) 0 p.0 refl)).1)

pub returns-in-Err : goal.returns-in-Err
returns-in-Err c = λ bound most us vs i ps even. c.in-Err.ensures bound most us vs i ps even

pub returns-in-Err-evaluate_if_at_hand : goal.returns-in-Err-evaluate_if_at_hand
returns-in-Err-evaluate_if_at_hand c = λ bound most us vs i ps even.
    let k = c.in-Err-evaluate_if_at_hand in
    let j = i + (c.in-Ok.next.tokens - c.args.run.tokens) in
    went_ends (c.in-Ok.ensures bound most us vs i ps even) {j = j} refl c.evaluate_if_at_hand.new.registers ps (Refused k.refusal) (k.ensures bound most us vs j ps even)

pub returns-in-Ok-evaluate_if_at_hand : goal.returns-in-Ok-evaluate_if_at_hand
returns-in-Ok-evaluate_if_at_hand c = λ bound most us vs i ps even.
    let j = i + (c.in-Ok.next.tokens - c.args.run.tokens) in
    went_went (c.in-Ok.ensures bound most us vs i ps even) {j = j} refl (c.in-Ok-evaluate_if_at_hand.ensures bound most us vs j ps even)
