use borrow.Author.Rules.{rules}
use mathlib.Core.Bool.{true, false}
use mathlib.Core.Path.{◌≡◌, sym, ap, ◌∙◌}
use Rattle.std.specs.Prelude.{Ok, Err, is_ok}
use Rattle.meaning.specs.PublicCalls.{stacks_of}
use Rattle.records.specs.Records.{state_is}
use Rattle.records.specs.Numbered.{number_or_zero}
use Rattle.run_lent.specs.Judging.{number_turned, number_admitted}
use Rattle.run_lent.proofs.turned_back.Goals as goal

pub returns-in_err-gate : goal.returns-in_err-gate
returns-in_err-gate t c =
    let a = c.args in
    let f = t.R.Numbered.number_of in
    let made : c.from_residual.result ≡ Err c.in_err-gate.field-0.0 = search rules in
    let was : c.gate.result ≡ Err c.in_err-gate.field-0.0 = search rules in
    λ g s. number_turned (f a.other) g (state_is a.brought) (stacks_of a.registers.now a.places.now) (number_or_zero f c.from_residual.result) (ap (number_or_zero f) made ∙ (sym (ap (number_or_zero f) was) ∙ c.gate.ensures.0)) (sym (ap is_ok was) ∙ c.gate.ensures.1)

pub returns-then-fits : goal.returns-then-fits
returns-then-fits t c =
    let a = c.args in
    let admitted : c.gate.result ≡ Ok c.in_ok-gate.field-0 = search rules in
    λ g s. number_admitted (t.R.Numbered.number_of a.other) g (state_is a.brought) (stacks_of a.registers.now a.places.now) true (sym (ap is_ok admitted) ∙ c.gate.ensures.1) (sym (c.fits.ensures g s) ∙ c.if-fits.true)

pub returns-else-fits : goal.returns-else-fits
returns-else-fits t c =
    let a = c.args in
    let admitted : c.gate.result ≡ Ok c.in_ok-gate.field-0 = search rules in
    λ g s. c.of.ensures ∙ number_admitted (t.R.Numbered.number_of a.other) g (state_is a.brought) (stacks_of a.registers.now a.places.now) false (sym (ap is_ok admitted) ∙ c.gate.ensures.1) (sym (c.fits.ensures g s) ∙ c.if-fits.false)
