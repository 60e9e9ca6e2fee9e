use mathlib.Core.Path.{ap, ◌∙◌}
use lib.IntN.{ℤ}
use mir.Facts.{to_z-of_z}
use Rattle.meaning.specs.Differences.{lowered}
use Rattle.clash_cycles.proofs.differences.Laws.{lowered_small}
use Rattle.clash_cycles.proofs.differences.at_most.Goals as goal

pub returns : goal.returns
returns c =
    let s = c in
    let l = s.args.m.now in
    let e = c.tighten.ensures ∙ ap (λ (w : ℤ). lowered l s.args.a s.args.b w) (to_z-of_z s.ranges.c) in
    record { met = e; small = λ f. rw e (lowered_small l s.args.a s.args.b s.args.c s.requires.0 s.requires.1 s.requires.2 s.requires.3 f) }
