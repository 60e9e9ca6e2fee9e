use Prim.Native.Nat.{◌+◌, ◌-◌}
use native.Mathlib.Omega.{arith}
use mathlib.Core.Path.{◌≡◌, sym, ap, ◌∙◌}
use mathlib.Core.List.{List}
use lib.IntN.{ℤ}
use lib.ListN.{set}
use Rattle.meaning.specs.Value.{mark}
use Rattle.run_registers.specs.Stack.{stack, stack_length, stack_laid}
use Rattle.run_registers.proofs.Loops.{clear_turn}
use Rattle.run_registers.proofs.remove.Goals as goal

pub loop-i-init : goal.loop-i-init
loop-i-init c = sym (stack_laid mark c.args.height c.args.registers.now c.requires.0)

pub loop-i-preserved : goal.loop-i-preserved
loop-i-preserved c =
    let l = c.loop-i in
    let h = c.args.height in
    let m = c.args.registers.now in
    let e : h - 1 - l.i ≡ h - (l.i + 1) = omega arith in
    rw e (ap (λ (r : List ℤ). set r (h - (l.i + 1)) mark) l.invariant ∙ clear_turn mark h l.i (stack h m) m (stack_length h m c.requires.0) (omega arith))
