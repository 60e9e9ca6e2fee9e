use Rattle.std.proofs.Common.{arith, rules, sym, ◌∙◌, ◌≡◌, ◌-◌, ◌+◌, None, to_z, of_z, to_z-of_z}
use Rattle.std.specs.Int.{w64}
use Rattle.window_found.specs.Checks.{Walked}
use Rattle.window_found.specs.Gathering.{walk_starts, walk_on_lem, walk_wrong, walked_wrong, walk_ends}
use Rattle.window_walk.proofs.walk_back.Goals as goal

pub loop-init : goal.loop-init
loop-init c =
    let a = c.args in
    let e : a.at.held - 0 ≡ a.at.held = omega arith in
    rw e (walk_starts a.slots.now a.area.now a.at (to_z w64 (of_z w64 a.value)) c.requires.0 a.leaders.now c.requires.2)

pub returns-in_err-w : goal.returns-in_err-w
returns-in_err-w c =
    let a = c.args in
    let l = c.loop in
    let n : c.from_residual.result ≡ None = search rules in
    rw n (walked_wrong a.slots.now a.area.now a.at a.value c.requires.0 _
    (walk_wrong a.slots.now a.area.now a.at (to_z w64 (of_z w64 a.value)) c.requires.0 (a.at.held - l.counter) l.w l.leaders (omega arith) l.invariant (sym c.in_err-w.was ∙ c.one_turn.ensures.0)))

pub loop-preserved : goal.loop-preserved
loop-preserved c =
    let a = c.args in
    let l = c.loop in
    let e : a.at.held - (l.counter + 1) ≡ a.at.held - l.counter - 1 = omega arith in
    rw e (walk_on_lem a.slots.now a.area.now a.at (to_z w64 (of_z w64 a.value)) c.requires.0 (a.at.held - l.counter) l.w l.leaders (omega arith) l.invariant
    (sym c.in_ok-w.was ∙ c.one_turn.ensures.0) c.one_turn.ensures.1)

pub returns : goal.returns
returns c =
    let a = c.args in
    let l = c.loop in
    let v : to_z w64 (of_z w64 a.value) ≡ a.value = to_z-of_z c.ranges.value in
    let r : Walked a.slots.now a.area.now a.at (to_z w64 (of_z w64 a.value)) c.conclude.result l.leaders =
    walk_ends a.slots.now a.area.now a.at (to_z w64 (of_z w64 a.value)) c.requires.0 l.w l.leaders (a.at.held - l.counter) (omega arith) l.invariant c.conclude.ensures in
    rw v at r
