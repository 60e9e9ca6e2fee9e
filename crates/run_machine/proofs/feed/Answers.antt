use native.Mathlib.Omega.{arith}
use Rattle.theory_program.specs.Addresses.{segment_at}
use Rattle.theory_program.specs.WordsStand.{stands_within}
use Rattle.run_machine.specs.Feeding.{tokens_fed, terminals_few}
use Rattle.run_machine.proofs.feed.Goals as goal

pub word_at-terminals-requires : goal.word_at-terminals-requires
word_at-terminals-requires c = omega (arith, stands_within (segment_at c.requires.0.held.begins))

pub take_tokens-requires : goal.take_tokens-requires
take_tokens-requires c =
    let p = c.requires in
    let t = terminals_few p.0 in
    let b = c.word_at-terminals.ensures.0 in
    record { running = p.0; few = omega (arith, b, t); even = p.1; alone = λ e. absurd (omega (arith, b, t, e)) }

pub returns : goal.returns
returns c =
    let t = c.take_tokens in
    let w = c.before.before.before.before.before.before.before in
    let a = w.args in
    tokens_fed t.new.registers t.new.places t.result w.word_at-terminals.result a.kinds.now a.values.now w.word_at-terminals.ensures.0 t.ensures
