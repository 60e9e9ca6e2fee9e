use mathlib.Core.Path.{sym, ap}
use Rattle.run_states.specs.Starting.{stood_waits}
use Rattle.theory_program.specs.Resuming.{place_address}
use Rattle.run_states.proofs.address_of.Goals as goal

pub returns-then-place-eq-LEFT : goal.returns-then-place-eq-LEFT
returns-then-place-eq-LEFT c = λ g b w s. sym (ap (place_address g) c.if-place-eq-LEFT.true)

pub resume-requires : goal.resume-requires
resume-requires c = let p = c.requires in record { grammar = p.grammar; begins = p.begins; well_formed = p.well_formed; waiting = λ k. stood_waits p.grammar c.args.place p.stood c.if-place-eq-LEFT.false }

pub returns : goal.returns
returns c = λ g b w s. c.resume.ensures g b w (λ k. stood_waits g c.args.place s c.if-place-eq-LEFT.false)
