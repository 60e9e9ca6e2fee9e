use native.Mathlib.Omega.{arith}
use mathlib.Core.Path.{◌≡◌, sym, ap, subst, ◌∙◌}
use lib.ListN.{length}
use mir.Syntax.{w32}
use mir.Val.{to_z, of_z}
use mir.Facts.{to_z-of_z}
use Rattle.preview.specs.collect.Collecting.{Collected, collected_none, collected_more, collected_all, few_terminals, program_long}
use Rattle.preview.proofs.collect.collect.Goals as goal

-- src/collect.rt:63:9
pub word_at-terminals-requires : goal.word_at-terminals-requires
word_at-terminals-requires c = program_long c.requires.0

-- src/collect.rt:66:5
pub loop-token-init : goal.loop-token-init
loop-token-init c = (omega arith, collected_none, c.requires.1)

-- src/collect.rt:67:13
pub passes-passed-requires : goal.passes-passed-requires
passes-passed-requires c =
    let p = c.requires.0 in
    (p, c.loop-token.invariant.2, omega (arith, few_terminals p, c.word_at-terminals.ensures))

-- src/collect.rt:77:9
pub grown-set-requires : goal.grown-set-requires
grown-set-requires c = tt

-- src/collect.rt:78:9
pub overflow_add-token : goal.overflow_add-token
overflow_add-token c = record { fits = omega (arith, few_terminals c.requires.0, c.word_at-terminals.ensures) }

-- src/collect.rt:66:5
pub loop-token-smaller : goal.loop-token-smaller
loop-token-smaller c = omega arith

-- src/collect.rt:66:5
pub loop-token-preserved : goal.loop-token-preserved
loop-token-preserved c =
    let l = c.loop-token in
    let p = c.passes-passed in (
      omega arith,
      collected_more l.invariant.1 (omega (
        arith,
        few_terminals c.requires.0,
        c.word_at-terminals.ensures,
      )) p.result p.ensures.0 c.grown-set.result.0 c.grown-set.ensures,
      p.ensures.1,
    )

-- src/collect.rt:51:1
pub shape_of-scratch_registers : goal.shape_of-scratch_registers
shape_of-scratch_registers c =
    let p = c.requires.1 in
    ap length c.loop-token.invariant.2.registers ∙ sym (ap length p.registers)

-- src/collect.rt:51:1
pub shape_of-scratch_places : goal.shape_of-scratch_places
shape_of-scratch_places c =
    let p = c.requires.1 in
    ap length c.loop-token.invariant.2.places ∙ sym (ap length p.places)

-- src/collect.rt:51:1
pub returns : goal.returns
returns c =
    let a = c.args in
    let l = c.loop-token in
    let e : to_z w32 (of_z w32 a.value) ≡ a.value = to_z-of_z c.ranges.value in
    (subst (λ z. Collected a.program.now z a.registers.now a.places.now a.run l.set.0) e (collected_all l.invariant.1 (omega (arith, l.invariant.0, c.word_at-terminals.ensures)) (omega (arith, c.word_at-terminals.ensures))), l.invariant.2)
