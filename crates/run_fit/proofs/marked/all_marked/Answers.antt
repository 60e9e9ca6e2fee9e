use Prim.Native.Nat.{ℕ, ◌+◌, ◌-◌}
use native.Mathlib.Omega.{arith}
use mathlib.Core.Path.{◌≡◌, refl, sym, ap, ◌∙◌}
use mathlib.Core.Bool.{◌&&◌}
use borrow.Author.Rules.{sfits_of}
use borrow.Author.Tests.{eq-eqb, ne_eqb}
use lib.Bits.{bit_or, bit_xor}
use lib.IntN.{ℤ, pos}
use lib.ListN.{length, get_or, drop, length-drop}
use lib.Seq.{take_all}
use mir.Syntax.{w64}
use mir.Val.{to_z, of_z}
use Rattle.std.proofs.Common.{Fits, SFits}
use Rattle.std.proofs.Math.Facts.{of_z-to_z, Fits-of_z, Fits-or, Fits-xor, Fits-lit}
use Rattle.meaning.specs.Base.{all}
use Rattle.meaning.specs.Calls.{is_mark}
use Rattle.run_fit.specs.cells.Gathering.{mark_bits, no_bits, gather_eight}
use Rattle.run_fit.proofs.marked.all_marked.Goals as goal

-- the bits of a cell that are gathered, read back from the signed local
gathered : (d : ℕ) (v : ℤ) → Fits w64 d → SFits w64 v → of_z w64 (to_z w64 (bit_or d (bit_xor (of_z w64 v) 9223372036854775808))) ≡ bit_or (of_z w64 (to_z w64 d)) (bit_xor (of_z w64 v) 9223372036854775808)
gathered d v f s =
    of_z-to_z {w = w64} (Fits-or f (Fits-xor (Fits-of_z s) (Fits-lit tt)))
    ∙ ap (λ n. bit_or n (bit_xor (of_z w64 v) 9223372036854775808)) (sym (of_z-to_z {w = w64} f))

pub loop-i-init : goal.loop-i-init
loop-i-init c = (omega arith, refl)

pub overflow_sub-cells : goal.overflow_sub-cells
overflow_sub-cells c = omega arith

pub offset_bounds-cells-i : goal.offset_bounds-cells-i
offset_bounds-cells-i c = omega arith

pub bounds-cells-i : goal.bounds-cells-i
bounds-cells-i c = omega arith

pub overflow_add-d1 : goal.overflow_add-d1
overflow_add-d1 c = omega arith

pub offset_bounds-cells-i-in-loop-i : goal.offset_bounds-cells-i-in-loop-i
offset_bounds-cells-i-in-loop-i c = omega arith

pub bounds-cells-i-in-loop-i : goal.bounds-cells-i-in-loop-i
bounds-cells-i-in-loop-i c = omega arith

pub overflow_add-d2 : goal.overflow_add-d2
overflow_add-d2 c = omega arith

pub offset_bounds-cells-i-in-loop-i-2 : goal.offset_bounds-cells-i-in-loop-i-2
offset_bounds-cells-i-in-loop-i-2 c = omega arith

pub bounds-cells-i-in-loop-i-2 : goal.bounds-cells-i-in-loop-i-2
bounds-cells-i-in-loop-i-2 c = omega arith

pub overflow_add-d3 : goal.overflow_add-d3
overflow_add-d3 c = omega arith

pub offset_bounds-cells-i-in-loop-i-3 : goal.offset_bounds-cells-i-in-loop-i-3
offset_bounds-cells-i-in-loop-i-3 c = omega arith

pub bounds-cells-i-in-loop-i-3 : goal.bounds-cells-i-in-loop-i-3
bounds-cells-i-in-loop-i-3 c = omega arith

pub overflow_add-d4 : goal.overflow_add-d4
overflow_add-d4 c = omega arith

pub offset_bounds-cells-i-in-loop-i-4 : goal.offset_bounds-cells-i-in-loop-i-4
offset_bounds-cells-i-in-loop-i-4 c = omega arith

pub bounds-cells-i-in-loop-i-4 : goal.bounds-cells-i-in-loop-i-4
bounds-cells-i-in-loop-i-4 c = omega arith

pub overflow_add-d5 : goal.overflow_add-d5
overflow_add-d5 c = omega arith

pub offset_bounds-cells-i-in-loop-i-5 : goal.offset_bounds-cells-i-in-loop-i-5
offset_bounds-cells-i-in-loop-i-5 c = omega arith

pub bounds-cells-i-in-loop-i-5 : goal.bounds-cells-i-in-loop-i-5
bounds-cells-i-in-loop-i-5 c = omega arith

pub overflow_add-d6 : goal.overflow_add-d6
overflow_add-d6 c = omega arith

pub offset_bounds-cells-i-in-loop-i-6 : goal.offset_bounds-cells-i-in-loop-i-6
offset_bounds-cells-i-in-loop-i-6 c = omega arith

pub bounds-cells-i-in-loop-i-6 : goal.bounds-cells-i-in-loop-i-6
bounds-cells-i-in-loop-i-6 c = omega arith

pub overflow_add-d7 : goal.overflow_add-d7
overflow_add-d7 c = omega arith

pub offset_bounds-cells-i-in-loop-i-7 : goal.offset_bounds-cells-i-in-loop-i-7
offset_bounds-cells-i-in-loop-i-7 c = omega arith

pub bounds-cells-i-in-loop-i-7 : goal.bounds-cells-i-in-loop-i-7
bounds-cells-i-in-loop-i-7 c = omega arith

pub overflow_add-i : goal.overflow_add-i
overflow_add-i c = omega arith

pub loop-i-smaller : goal.loop-i-smaller
loop-i-smaller c = omega arith

pub loop-i-preserved : goal.loop-i-preserved
loop-i-preserved c =
    let l = c.loop-i in
    let cells = c.args.cells.now in
    let v0 : ℤ = get_or cells l.i (pos 0) in
    let v1 : ℤ = get_or cells (l.i + 1) (pos 0) in
    let v2 : ℤ = get_or cells (l.i + 2) (pos 0) in
    let v3 : ℤ = get_or cells (l.i + 3) (pos 0) in
    let v4 : ℤ = get_or cells (l.i + 4) (pos 0) in
    let v5 : ℤ = get_or cells (l.i + 5) (pos 0) in
    let v6 : ℤ = get_or cells (l.i + 6) (pos 0) in
    let v7 : ℤ = get_or cells (l.i + 7) (pos 0) in (
      omega arith,
      rw (
        gathered l.d0-bits v0 l.auto.d0-fits (sfits_of c.d0-1.given),
        gathered l.d1-bits v1 l.auto.d1-fits (sfits_of c.d1-1.given),
        gathered l.d2-bits v2 l.auto.d2-fits (sfits_of c.d2-1.given),
        gathered l.d3-bits v3 l.auto.d3-fits (sfits_of c.d3-1.given),
        gathered l.d4-bits v4 l.auto.d4-fits (sfits_of c.d4-1.given),
        gathered l.d5-bits v5 l.auto.d5-fits (sfits_of c.d5-1.given),
        gathered l.d6-bits v6 l.auto.d6-fits (sfits_of c.d6-1.given),
        gathered l.d7-bits v7 l.auto.d7-fits (sfits_of c.d7-1.given),
      )
          (gather_eight is_mark cells l.i (pos 0) (omega arith)
          (of_z w64 (to_z w64 l.d0-bits)) (of_z w64 (to_z w64 l.d1-bits)) (of_z w64 (to_z w64 l.d2-bits)) (of_z w64 (to_z w64 l.d3-bits))
          (of_z w64 (to_z w64 l.d4-bits)) (of_z w64 (to_z w64 l.d5-bits)) (of_z w64 (to_z w64 l.d6-bits)) (of_z w64 (to_z w64 l.d7-bits))
          (bit_xor (of_z w64 v0) 9223372036854775808) (bit_xor (of_z w64 v1) 9223372036854775808) (bit_xor (of_z w64 v2) 9223372036854775808) (bit_xor (of_z w64 v3) 9223372036854775808)
          (bit_xor (of_z w64 v4) 9223372036854775808) (bit_xor (of_z w64 v5) 9223372036854775808) (bit_xor (of_z w64 v6) 9223372036854775808) (bit_xor (of_z w64 v7) 9223372036854775808)
          (mark_bits v0 (sfits_of c.d0-1.given)) (mark_bits v1 (sfits_of c.d1-1.given))
          (mark_bits v2 (sfits_of c.d2-1.given)) (mark_bits v3 (sfits_of c.d3-1.given))
          (mark_bits v4 (sfits_of c.d4-1.given)) (mark_bits v5 (sfits_of c.d5-1.given))
          (mark_bits v6 (sfits_of c.d6-1.given)) (mark_bits v7 (sfits_of c.d7-1.given)) l.invariant.1),
    )

pub returns-then-d0-d1-ne0 : goal.returns-then-d0-d1-ne0
returns-then-d0-d1-ne0 c =
    let l = c.loop-i in
    let cells = c.args.cells.now in
    let so = rw (
      of_z-to_z {w = w64} l.auto.d0-fits,
      of_z-to_z {w = w64} l.auto.d1-fits,
      of_z-to_z {w = w64} l.auto.d2-fits,
      of_z-to_z {w = w64} l.auto.d3-fits,
      of_z-to_z {w = w64} l.auto.d4-fits,
      of_z-to_z {w = w64} l.auto.d5-fits,
      of_z-to_z {w = w64} l.auto.d6-fits,
      of_z-to_z {w = w64} l.auto.d7-fits,
    ) at l.invariant.1 in
    sym (so ∙ ap (λ t. t && all is_mark (drop l.i cells)) (sym (no_bits l.d0-bits l.d1-bits l.d2-bits l.d3-bits l.d4-bits l.d5-bits l.d6-bits l.d7-bits) ∙ ne_eqb (bit_or l.d0-bits (bit_or l.d1-bits (bit_or l.d2-bits (bit_or l.d3-bits (bit_or l.d4-bits (bit_or l.d5-bits (bit_or l.d6-bits l.d7-bits))))))) 0 c.if-d0-d1-ne0.true))

pub returns : goal.returns
returns c =
    let l = c.loop-i in
    let cells = c.args.cells.now in
    let so = rw (
      of_z-to_z {w = w64} l.auto.d0-fits,
      of_z-to_z {w = w64} l.auto.d1-fits,
      of_z-to_z {w = w64} l.auto.d2-fits,
      of_z-to_z {w = w64} l.auto.d3-fits,
      of_z-to_z {w = w64} l.auto.d4-fits,
      of_z-to_z {w = w64} l.auto.d5-fits,
      of_z-to_z {w = w64} l.auto.d6-fits,
      of_z-to_z {w = w64} l.auto.d7-fits,
    ) at l.invariant.1 in
    let left = c.few_marked.ensures ∙ ap (all is_mark) (take_all (length cells - l.i) (drop l.i cells) (omega (arith, length-drop l.i cells))) in
    sym (so ∙ (ap (λ t. t && all is_mark (drop l.i cells)) (sym (no_bits l.d0-bits l.d1-bits l.d2-bits l.d3-bits l.d4-bits l.d5-bits l.d6-bits l.d7-bits)
    ∙ eq-eqb (bit_or l.d0-bits (bit_or l.d1-bits (bit_or l.d2-bits (bit_or l.d3-bits (bit_or l.d4-bits (bit_or l.d5-bits (bit_or l.d6-bits l.d7-bits))))))) 0 c.if-d0-d1-ne0.false) ∙ sym left))
