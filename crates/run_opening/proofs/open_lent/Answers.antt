use native.Mathlib.Omega.{arith}
use mathlib.Core.Path.{ap, ◌∙◌}
use lib.ListN.{set}
use Rattle.meaning.specs.Grammar.{segment_place}
use Rattle.records.specs.Records.{handed_is}
use Rattle.records.specs.States.{not_opened}
use Rattle.records.specs.declared.Answer.TheVariants.{More}
use Rattle.run_opening.specs.Opening.{open_31, open_32, open_made}
use Rattle.run_opening.proofs.open_lent.Goals as goal

pub returns-then-registers-count : goal.returns-then-registers-count
returns-then-registers-count c =
    let a = c.args in
    let w = c.word_at-count in
    λ g s. ap (λ z. handed_is z a.registers.now a.places.now) (c.not_opened.ensures ∙ ap not_opened c.turned_back.ensures)
    ∙ open_31 g a.program.now s a.registers.now a.places.now c.requires.0 c.requires.1 (omega (arith, c.if-registers-count.true, w.ensures.0))

pub returns-then-places-eq0 : goal.returns-then-places-eq0
returns-then-places-eq0 c =
    let a = c.args in
    let w = c.word_at-count in
    λ g s. ap (λ z. handed_is z a.registers.now a.places.now) (c.not_opened-then-places-eq0.ensures ∙ ap not_opened c.turned_back-then-places-eq0.ensures)
    ∙ open_32 g a.program.now s a.registers.now a.places.now c.requires.0 c.requires.1 (omega (arith, c.if-registers-count.false, w.ensures.0)) c.if-places-eq0.true

pub returns : goal.returns
returns c =
    let a = c.args in
    let w = c.word_at-count in
    let vs = c.clear_registers in
    let ps = c.clear_places in
    λ g s. ap (λ z. handed_is (record { state = z; answer = More 0 }) vs.new.registers (set ps.new.places 0 segment_place)) c.running.ensures
    ∙ open_made g a.program.now s a.registers.now a.places.now c.requires.0 c.requires.1 (omega (arith, c.if-registers-count.false, w.ensures.0)) c.if-places-eq0.false w.result _ _ w.ensures.0 vs.ensures ps.ensures
