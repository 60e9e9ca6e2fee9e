use mathlib.Core.Path.{◌≡◌, refl, sym, ap, ◌∙◌}
use mathlib.Core.Bool.{true, false, ◌&&◌}
use mir.Syntax.{w64}
use mir.Val.{to_z, of_z}
use Rattle.meaning.specs.Value.{in_range}
use Rattle.meaning_window.specs.Window.{well_kept, brings_value}
use Rattle.window_cells.specs.Signed.{back}
use Rattle.theory_window.specs.Cases.{value_not}
use Rattle.window_found.specs.Checks.{checked_kept, checked_wrong}
use Rattle.window_push.specs.Leading.{brought}
use Rattle.window.proofs.window_value.Goals as goal

pub returns-then-not-in_range : goal.returns-then-not-in_range
returns-then-not-in_range c =
    let s = c.args in
    let t : in_range s.value ≡ false = sym (c.in_range.ensures ∙ ap in_range (back s.value c.ranges.value)) ∙ c.if-not-in_range.true in
    sym (value_not s.value s.buffer.now (rw t refl))

pub check-requires : goal.check-requires
check-requires c = (sym c.in_range.ensures ∙ c.if-not-in_range.false, refl)

pub returns-in_default : goal.returns-in_default
returns-in_default c =
    let s = c.args in
    let b = s.buffer.now in
    let t : in_range s.value ≡ true = sym (c.in_range.ensures ∙ ap in_range (back s.value c.ranges.value)) ∙ c.if-not-in_range.false in
    let w : well_kept b ≡ false = checked_wrong b (to_z w64 (of_z w64 s.value)) c.check.ensures c.in_default.is in
    sym (value_not s.value b (ap (λ x. x && well_kept b) t ∙ w))

pub slice_bounds-push-end : goal.slice_bounds-push-end
slice_bounds-push-end c =
    let w = checked_kept c.args.buffer.now (to_z w64 (of_z w64 c.args.value)) c.check.ensures c.in-Some.is in
    sym w.leaders.long

pub push-requires : goal.push-requires
push-requires c =
    let b = c.args.buffer.now in
    let v = to_z w64 (of_z w64 c.args.value) in
    let w = checked_kept b v c.check.ensures c.in-Some.is in
    (brought b w.kept v c.in-Some.found c.check.new.leaders w, sym c.in_range.ensures ∙ c.if-not-in_range.false)

pub returns : goal.returns
returns c =
    c.push.ensures ∙ ap (λ v. brings_value v c.args.buffer.now) (back c.args.value c.ranges.value)
