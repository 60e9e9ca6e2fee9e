use Rattle.std.proofs.Common.{◌≡◌, take}
use Rattle.theory_sheet.specs.Overlay.{overlay}
use Rattle.sheet.proofs.tree.written.put_bytes.Given as goal

abbrev pub invariant-loop-i : goal.invariant-loop-i
invariant-loop-i l = l.sheet ≡ overlay l.at (take l.i l.bytes) l.initial.sheet
