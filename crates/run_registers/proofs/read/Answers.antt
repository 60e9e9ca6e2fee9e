use mathlib.Core.Path.{◌∙◌}
use borrow.Author.Rules.{sfits_of}
use lib.IntN.{pos}
use Rattle.std.proofs.Common.{w64}
use mir.Facts.{to_z-of_z}
use Rattle.meaning.specs.Value.{mark}
use Rattle.run_registers.specs.Stack.{stack_read}
use Rattle.run_registers.proofs.read.Goals as goal

pub returns : goal.returns
returns c =
    let s = c.before in
    to_z-of_z {w = w64} (sfits_of c.result-1.given) ∙ stack_read mark s.args.height s.args.registers.now s.requires.0 s.args.selector (pos 0) s.requires.1 s.requires.2
