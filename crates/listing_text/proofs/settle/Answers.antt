use Rattle.listing_text.specs.LineOut.{lines_skip}
use Rattle.listing_text.specs.Tests.{inside_facts, skips_facts, skipped_on}
use Rattle.listing_text.specs.Cursors.{lines_left}
use mathlib.Core.Path.{refl, sym, ap, ◌∙◌}
use native.Mathlib.Omega.{arith}
use Rattle.listing_text.proofs.settle.Goals as goal

pub loop-c-init : goal.loop-c-init
loop-c-init c = refl

pub is_silent-requires : goal.is_silent-requires
is_silent-requires c = tt

pub pass-c-requires : goal.pass-c-requires
pass-c-requires c =
    let ws = c.args.program.now in
    let d = c.loop-c.c in
    let i = inside_facts ws d (skips_facts ws d (sym c.is_silent.ensures ∙ c.loop-c-test.true)).inside in
    (i.1, i.2)

pub loop-c-smaller : goal.loop-c-smaller
loop-c-smaller c =
    let ws = c.args.program.now in
    let d = c.loop-c.c in
    let i = inside_facts ws d (skips_facts ws d (sym c.is_silent.ensures ∙ c.loop-c-test.true)).inside in
    omega (arith, i.1, ap (λ e. e.at) c.pass-c.ensures ∙ (skipped_on ws d).1)

pub loop-c-preserved : goal.loop-c-preserved
loop-c-preserved c =
    let ws = c.args.program.now in
    ap (lines_left ws) c.pass-c.ensures ∙ (lines_skip ws c.loop-c.c (sym c.is_silent.ensures ∙ c.loop-c-test.true) ∙ c.loop-c.invariant)

pub returns : goal.returns
returns c = (sym c.is_silent.ensures ∙ c.loop-c-test.false, c.loop-c.invariant)
