use Prim.Native.Nat.{◌+◌, ◌*◌}
use native.Mathlib.Omega.{arith}
use mathlib.Core.Path.{◌≡◌, ap, ◌∙◌}
use lib.ListN.{get_or}
use Rattle.theory_program.specs.Parts.{head_operand}
use Rattle.run_predict.proofs.entry_at.Goals.{After-operand-n}
use Rattle.run_predict.proofs.entry_at.Goals as goal

-- the operand at hand
operand_is : (c : After-operand-n) → (let a = c.args in c.operand-n.result ≡ head_operand (get_or a.program.now a.run.at 0))
operand_is c = c.operand-n.ensures ∙ ap head_operand c.word_at.ensures.0

pub word_at-requires : goal.word_at-requires
word_at-requires c = c.requires.0

pub word_at-requires-2 : goal.word_at-requires-2
word_at-requires-2 c = omega (arith, operand_is c, c.requires.2)

pub returns : goal.returns
returns c =
    let o = c.before.before in
    let a = o.args in
    c.word_at-2.ensures.0 ∙ ap (λ w. get_or a.program.now (9 + 64 * w + a.look) 0) (operand_is (record { before = o; type_inv = record { program = o.shared_slice_known-1.given } }))
