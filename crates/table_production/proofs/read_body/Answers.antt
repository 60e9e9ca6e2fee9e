use Prim.Native.Nat.{ℕ, ◌+◌}
use mathlib.Core.Path.{◌≡◌, sym, subst}
use mathlib.Core.List.{List}
use native.Mathlib.Omega.{arith}
use Rattle.table_items.specs.declared.Items.{Items}
use Rattle.table_sound_items.specs.Sound.{Sounding}
use Rattle.table_sound_items.proofs.Walking.{body_sound}
use Rattle.table_production.proofs.Producing.{body_walked, sound_body}
use Rattle.table_production.proofs.read_body.Goals.{in-Ok+else-all_settled, in-Err}
use Rattle.table_production.proofs.read_body.Goals as goal

same_stop :
    (t : List ℕ) (from r₀ c₀ : ℕ) (inputs words₀ words : List ℕ) (x y : Items) → x ≡ y → Sounding t from r₀ c₀ inputs words₀ words y.at y.rules y.conditions
    → Sounding t from r₀ c₀ inputs words₀ words x.at x.rules x.conditions
same_stop t from r₀ c₀ inputs words₀ words x y e s = subst (λ (u : Items). Sounding t from r₀ c₀ inputs words₀ words u.at u.rules u.conditions) (sym e) s

pub returns-then-all_settled-clause-read : goal.returns-then-all_settled-clause-read
returns-then-all_settled-clause-read c =
    let t = c.args.table.now in
    let at = c.args.before.at in
    let taken = body_walked t at c.wide-width.result _ _ _ _ _ _ _ _ _ _ _ c.wide-width.ensures.0 c.requires.0 c.requires.6 c.in-Ok.ensures.taken in
    let b = body_sound t at _ _ _ _ _ _ _ _ _ _ (omega arith) taken c.in-Ok.ensures.over c.wide-width.ensures.0 (c.all_settled.ensures c.if-all_settled.true) in
    sound_body t at _ _ _ _ _ _ _ _ c.requires.0 c.requires.1 b

pub returns-clause-read : goal.returns-clause-read
returns-clause-read c =
    let t = c.args.table.now in
    let at = c.args.before.at in
    let s : Sounding t (at + 5 + c.wide-width.result) c.args.before.rules c.args.before.conditions c.args.inputs.now c.args.settled.now c.walk.new.settled c.match-walk.stopped.at c.match-walk.stopped.rules c.match-walk.stopped.conditions =
    elim c.match-walk.branch [
      | in-Ok+else-all_settled w ↦ same_stop _ _ _ _ _ _ _ _ _ w.stopped-is w.in-Ok.ensures.taken
      | in-Err w ↦ same_stop _ _ _ _ _ _ _ _ _ w.stopped-is w.in-Err.ensures.taken
    ]
    in
    c.judge_body.ensures.read _ _ (body_walked t at c.wide-width.result _ _ _ _ _ _ _ _ _ _ _ c.wide-width.ensures.0 c.requires.0 c.requires.6 s)
