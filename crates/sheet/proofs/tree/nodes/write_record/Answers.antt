use native.Mathlib.Omega.{arith}
use mathlib.Core.Path.{ap, ◌∙◌}
use Rattle.meaning.specs.Grammar.{place_production}
use Rattle.theory_program.specs.Parts.{head_operand}
use Rattle.run_moves.specs.Held.{bounds}
use Rattle.sheet.specs.tree.nodes.Recording.{values_there, few_values, record_here_lem}
use Rattle.sheet.proofs.tree.nodes.write_record.Goals as goal

pub overflow_sub-run : goal.overflow_sub-run
overflow_sub-run c = (bounds c.requires.0.held).some_place

pub word_at-requires : goal.word_at-requires
word_at-requires c = let b = bounds c.requires.0.held in omega (arith, b.places, b.some_place)

pub word_at-requires-2 : goal.word_at-requires-2
word_at-requires-2 c = (bounds c.requires.0.held).inside

pub overflow_sub-above : goal.overflow_sub-above
overflow_sub-above c =
    let attributes = c.attributes-sizes in
    let s = c in
    let i = s.requires.0 in
    omega (arith, (values_there i.held i.stand s.requires.1).0, (attributes.ensures i.grammar i.lent i.tokens _ i.config i.node i.parent i.below i.held i.stand).0, (c.operand.ensures ∙ ap head_operand c.word_at-2.ensures.0))

pub put_values-requires : goal.put_values-requires
put_values-requires c =
    let s = c in
    let i = s.requires.0 in
    let n = c.attributes-sizes.ensures i.grammar i.lent i.tokens _ i.config i.node i.parent i.below i.held i.stand in
    let v = values_there i.held i.stand s.requires.1 in
    let b = bounds i.held in
    let w = (c.operand.ensures ∙ ap head_operand c.word_at-2.ensures.0) in
    (omega (arith, s.requires.2), b.registers, omega (arith, v.0, v.1, n.0, n.1, w), omega (arith, b.registers, s.requires.4), omega (arith, n.1, few_values i.held i.stand s.requires.1))

pub returns : goal.returns
returns c = λ g lent tokens d o b bs h t.
    let s = c in
    let n = c.attributes-sizes.ensures g lent tokens _ d o b bs h t in
    let put-four3 = c.put_four-3 in
    let put-four2 = c.put_four-2 in
    let put_four = c.put_four in
    let p = c in
    record_here_lem h t s.requires.1 _ _ _ _ _ _ _ _ _ _ (p.production-production.ensures ∙ ap place_production p.word_at.ensures.0) n.0 n.1 put_four.ensures put-four2.ensures put-four3.ensures (rw (c.operand.ensures ∙ ap head_operand c.word_at-2.ensures.0) at c.put_values.ensures)
