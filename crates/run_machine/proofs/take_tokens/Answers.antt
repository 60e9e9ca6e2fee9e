use Prim.Native.Nat.{ℕ, ◌-◌}
use native.Mathlib.Omega.{arith}
use mathlib.Core.Path.{◌≡◌, refl, ◌∙◌}
use lib.ListN.{length-replicate}
use Rattle.run_moves.specs.Returns.{no_place, returns_none}
use Rattle.run_machine.specs.Flows.{flows_start, not_begun, flows_held, flows_counts, flows_on, flows_ended}
use Rattle.run_machine.proofs.take_tokens.Goals as goal

zero_first : (n : ℕ) → n - n ≡ 0
zero_first n = omega arith

pub judged-requires : goal.judged-requires
judged-requires c = omega arith

pub returns-in-Err : goal.returns-in-Err
returns-in-Err c =
    let a = c.args in
    rw c.ending.ensures (not_begun a.bound a.most a.program.now a.kinds.now a.values.now a.registers.now a.places.now a.run c.in-Err.halt c.requires.even (rw (zero_first a.run.tokens) at c.in-Err.ensures))

pub loop-next-init : goal.loop-next-init
loop-next-init c =
    let a = c.args in
    let taken = rw (zero_first a.run.tokens) at c.in_default.ensures in
    (flows_start a.bound a.most a.program.now a.kinds.now a.values.now a.registers.now a.places.now a.run taken (a.run.tokens - a.run.tokens) (omega arith), omega arith, refl, refl, returns_none a.program.now 32, length-replicate 32 no_place)

pub turn-requires : goal.turn-requires
turn-requires c =
    let p = c.requires in
    let i = c.loop-next.invariant in
    (record { running = flows_held i.0 p.running; few = p.few; even = p.even; alone = p.alone }, i.1, i.4)

pub loop-next-smaller : goal.loop-next-smaller
loop-next-smaller c =
    let k = flows_counts c.loop-next.invariant.0 c.requires.running c.in-Ok.ensures.0 in
    omega (arith, k.0, k.1)

pub loop-next-preserved : goal.loop-next-preserved
loop-next-preserved c =
    let i = c.loop-next.invariant in
    let m = c.in-Ok.ensures.0 in
    let k = flows_counts i.0 c.requires.running m in
    let kept = c.turn.auto in
    (flows_on i.0 (c.in-Ok.next.tokens - c.args.run.tokens) (omega (arith, k.2, i.1)) m, omega (arith, k.2, i.1), kept.registers ∙ i.2, kept.places ∙ i.3, c.in-Ok.ensures.1, kept.returns ∙ i.5)

pub shape_of-registers-in-Err-turn : goal.shape_of-registers-in-Err-turn
shape_of-registers-in-Err-turn c = c.turn.auto.registers ∙ c.loop-next.invariant.2

pub shape_of-places-in-Err-turn : goal.shape_of-places-in-Err-turn
shape_of-places-in-Err-turn c = c.turn.auto.places ∙ c.loop-next.invariant.3

pub returns-in-Err-turn : goal.returns-in-Err-turn
returns-in-Err-turn c =
    let n = c.in-Err-turn in
    rw c.ending-in-Err-turn.ensures (flows_ended c.loop-next.invariant.0 c.turn.new.registers c.turn.new.places n.over.run n.over.halt n.ensures.0)
