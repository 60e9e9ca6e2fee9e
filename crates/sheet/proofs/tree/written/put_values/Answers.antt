use Prim.Native.Nat.{◌+◌, ◌<◌}
use native.Mathlib.Omega.{arith}
use mathlib.Core.Path.{sym}
use lib.ListN.{length}
use Rattle.theory_sheet.specs.Overlay.{overlay_none, value_laid}
use Rattle.run_registers.specs.Stack.{stack, stack_length}
use mir.Facts.{to_z-of_z}
use borrow.Author.Rules.{sfits_of}
use Rattle.sheet.proofs.tree.written.put_values.Goals as goal

pub loop-i-init : goal.loop-i-init
loop-i-init c = sym (overlay_none _ _)

pub put_eight-requires : goal.put_eight-requires
put_eight-requires c =
    omega (arith, c.requires.0, c.requires.4, c.loop-i-test.true)

pub loop-i-preserved : goal.loop-i-preserved
loop-i-preserved c =
    let l = c.loop-i in
    let h = c.loop-i-test.true in
    let t : c.args.above + l.i < length (stack c.args.height c.args.registers.now) = omega (arith, c.requires.2, h, stack_length c.args.height c.args.registers.now c.requires.1) in
    let r = c.read-value in
    let w = c.put_eight in
    value_laid c.args.at l.i c.args.above (stack c.args.height c.args.registers.now) _ c.args.sheet.now l.sheet _ t r.ensures l.invariant (rw (to_z-of_z (sfits_of r.type_inv)) at w.ensures)
