use mathlib.Core.Path.{sym, ◌∙◌, ap, subst}
use native.Mathlib.Omega.{arith}
use Prim.Native.Nat.{ℕ, ◌+◌, ◌<◌, ◌%◌}
use Rattle.table_rule_fields.proofs.note.Bits.{ones_tested, one_bit}
use lib.Pow.{pow_pos}
use lib.Dec.{eqb}
use Rattle.table_rule_fields.proofs.note.all_ones.Goals as goal

pub nonzero_rem-result : goal.nonzero_rem-result
nonzero_rem-result c = subst (λ (x : ℕ). 0 < x) (sym (one_bit 64 c.args.d (omega arith))) (pow_pos c.args.d)

pub returns : goal.returns
returns c = ap (λ (x : ℕ). eqb ((c.args.n + 1) % x) 0) (one_bit 64 c.args.d (omega arith)) ∙ ones_tested _ _
