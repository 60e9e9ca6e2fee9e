use native.Mathlib.Omega.{arith}
use Rattle.program_words.specs.Laws as L
use Rattle.program_words.specs.Sections as S
use mathlib.Core.Path.{subst, ◌∙◌, refl, sym}
use Rattle.program_words.specs.Built.{LinksFit}
use Rattle.program.proofs.productions.write_each.Goals as goal

pub overflow_mul-at : goal.overflow_mul-at
overflow_mul-at c =
    let n = L.numbers_small c.requires.0.outline in
    omega (arith, n.0)

pub overflow_add-at : goal.overflow_add-at
overflow_add-at c =
    let n = L.numbers_small c.requires.0.outline in
    omega (arith, n.0)

pub overflow_mul-body : goal.overflow_mul-body
overflow_mul-body c =
    let n = L.numbers_small c.requires.0.outline in
    omega (arith, n.3)

pub overflow_add-body : goal.overflow_add-body
overflow_add-body c =
    let n = L.numbers_small c.requires.0.outline in
    omega (arith, n.0, n.3)

pub find_nexts-nexts-requires : goal.find_nexts-nexts-requires
find_nexts-nexts-requires c = (_, c.requires.0.outline.productions.rows_of)

pub loop-p-init : goal.loop-p-init
loop-p-init c =
    let pre = c.requires in
    let n = L.numbers_small pre.0.outline in
    (refl, omega (arith, n.0), refl, S.productions_start pre.0 pre.1)

pub write_production-body-requires : goal.write_production-body-requires
write_production-body-requires c =
    let i = c.loop-p.invariant in
    let pre = c.requires in
    let nodes = subst (LinksFit _) (sym i.2) pre.2 in
    (S.production_fits pre.0 pre.1 i.3 (omega arith), c.find_nexts-nexts.ensures, nodes)

pub overflow_add-at-in-loop-p : goal.overflow_add-at-in-loop-p
overflow_add-at-in-loop-p c = omega arith

pub loop-p-preserved : goal.loop-p-preserved
loop-p-preserved c =
    let i = c.loop-p.invariant in
    let pre = c.requires in
    (i.0, S.record_low pre.0 pre.1 i.3 (omega arith), c.write_production-body.ensures.0 ∙ i.2, S.productions_turn pre.0 pre.1 i.3 (omega arith) c.write_production-body.ensures.1)

pub shape_of-links : goal.shape_of-links
shape_of-links c = c.loop-p.invariant.2

pub shape_of-area : goal.shape_of-area
shape_of-area c =
    let pre = c.requires in
    S.productions_size pre.0 pre.1 c.loop-p.invariant.3

pub returns : goal.returns
returns c =
    let pre = c.requires in
    S.productions_end pre.0 pre.1 c.loop-p.invariant.3 (omega arith)
