use native.Mathlib.Omega.{arith}
use mathlib.Core.Path.{refl}
use lib.IntN.{pos}
use Rattle.run_moves.specs.Held.{bounds}
use Rattle.run_machine.specs.Feeding.{end_finished}
use Rattle.run_machine.proofs.finish.Goals as goal

pub take_tokens-requires : goal.take_tokens-requires
take_tokens-requires c = record { running = c.requires; few = omega arith; even = refl; alone = λ e. omega arith }

pub returns : goal.returns
returns c =
    let t = c.take_tokens in
    let p = c.requires in
    end_finished t.new.registers t.new.places t.result 18446744073709551615 (pos 0) (omega (arith, (bounds p.held).tokens)) t.ensures
