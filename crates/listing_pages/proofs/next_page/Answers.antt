use Prim.Native.Nat.{◌+◌, ◌-◌, ◌≤◌, zero-le}
use native.Mathlib.Omega.{arith}
use mathlib.Core.Path.{refl, ◌∙◌}
use lib.ListN.{length, drop, replicate, length-take, length-drop}
use borrow.Rule.Slice.PartMut.{same_len_mid}
use Rattle.listing_pages.specs.Pages.{line_room}
use Rattle.listing_text.specs.Cursors.{lines_left}
use Rattle.listing_pages.proofs.Paging.{filled_start, filled_full, filled_page, line_turn, line_less, line_over, none_of_lines_left}
use Rattle.listing_pages.proofs.next_page.Goals as goal

pub loop-filled-init : goal.loop-filled-init
loop-filled-init c = (filled_start _ _ _, refl, zero-le)

pub overflow_sub-out : goal.overflow_sub-out
overflow_sub-out c = omega (arith, c.loop-filled.invariant.1, c.requires)

pub slice_bounds-next_line-count : goal.slice_bounds-next_line-count
slice_bounds-next_line-count c = c.loop-filled.invariant.2

pub slice_bounds-next_line-start : goal.slice_bounds-next_line-start
slice_bounds-next_line-start c = c.loop-filled.invariant.2

pub next_line-requires : goal.next_line-requires
next_line-requires c =
    let lp = c.loop-filled in
    let room = length lp.out - lp.filled in
    omega (arith, length-take room (drop lp.filled lp.out), length-drop lp.filled lp.out, c.loop-filled-test.true, lp.invariant.1, c.requires)

pub shape_of-out-in_default : goal.shape_of-out-in_default
shape_of-out-in_default c =
    let lp = c.loop-filled in
    let line = c.next_line in
    same_len_mid lp.filled (length lp.out - lp.filled) lp.out line.new.out line.auto.out ∙ lp.invariant.1

pub returns-in_default : goal.returns-in_default
returns-in_default c =
    let i = c.loop-filled.invariant in
    let line = c.next_line in
    record { shows = line_over i.0 line.result line.new.out line.ensures.1 c.in_default.is (omega (arith, i.1, i.2)); onward = tt }

pub loop-filled-smaller : goal.loop-filled-smaller
loop-filled-smaller c =
    let line = c.next_line in
    line_less c.loop-filled.invariant.0 line.result line.new.out line.ensures.1 c.in-Some.line c.in-Some.is

pub loop-filled-preserved : goal.loop-filled-preserved
loop-filled-preserved c =
    let lp = c.loop-filled in
    let line = c.next_line in
    let test = c.loop-filled-test.true in
    let room : lp.filled + line_room ≤ length c.args.out.now = omega (arith, test, lp.invariant.1, c.requires) in
    let same = same_len_mid lp.filled (length lp.out - lp.filled) lp.out line.new.out line.auto.out in
    (line_turn lp.invariant.0 line.result line.new.out line.ensures.1 c.in-Some.line room c.in-Some.is, same ∙ lp.invariant.1, omega (arith, same, c.in-Some.ensures.0, test, lp.invariant.1, c.requires))

pub shape_of-out : goal.shape_of-out
shape_of-out c = c.loop-filled.invariant.1

pub returns : goal.returns
returns c =
    let lp = c.loop-filled in
    let test = c.loop-filled-test.false in
    let ws = c.args.program.now in
    let line = c.next_line-2 in
    let over = c.is_none-over.result in
    let none = none_of_lines_left ws (lines_left ws lp.c) (replicate 64 0) line.new.out line.result over c.is_none-over.ensures line.ensures.1 in
    record { shows = filled_full lp.invariant.0 (omega (arith, lp.invariant.1, lp.invariant.2)) (omega (arith, lp.invariant.1, test, c.requires)) over none; onward = filled_page lp.invariant.0 (omega (arith, test, lp.invariant.1, c.requires)) over }
