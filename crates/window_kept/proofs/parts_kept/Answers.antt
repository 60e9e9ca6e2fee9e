use native.Mathlib.Omega.{arith}
use mathlib.Core.Path.{◌≡◌, sym, ◌∙◌}
use lib.ListN.{get_or}
use lib.IntN.{pos}
use mir.Syntax.{w64}
use mir.Val.{to_z, of_z, SFits}
use mir.Facts.{to_z-of_z}
use borrow.Author.Rules.{rules}
use Rattle.window_cells.specs.Signed.{back}
use Rattle.window_found.specs.Checking.{place_not, count_not, rest_not, values_by, window_part}
use Rattle.window_kept.proofs.parts_kept.Goals as goal

pub returns-then-not-place_fits : goal.returns-then-not-place_fits
returns-then-not-place_fits c =
    let s = c in
    let h = c.number_at-held in
    let k = c.number_at-next in
    place_not s.args.buffer.now _ _ s.args.size s.requires.0 s.requires.1 h.result k.result h.ensures.0 k.ensures.0 (sym c.place_fits.ensures ∙ c.if-not-place_fits.true)

pub returns-then-size-count : goal.returns-then-size-count
returns-then-size-count c =
    let e = c in
    let s = c in
    let h = e.number_at-held in
    let k = e.number_at-next in
    let q = c.number_at-count in
    count_not s.args.buffer.now _ _ s.args.size s.requires.0 s.requires.1 h.result k.result h.ensures.0 k.ensures.0 (sym c.place_fits.ensures ∙ c.if-not-place_fits.false) q.result q.ensures.0 (omega arith)

pub rest_zero-requires : goal.rest_zero-requires
rest_zero-requires c =
    let e = c in
    let s = c in
    let h = e.number_at-held in
    let k = e.number_at-next in
    let q = c.number_at-count in
    let w = window_part s.args.buffer.now s.args.value s.args.leaders.now s.args.size s.requires.0 s.requires.1 h.result k.result h.ensures.0 k.ensures.0 (sym c.place_fits.ensures ∙ c.if-not-place_fits.false) q.result q.ensures.0 (omega arith) (pos 0) in
    (w.held, omega (arith, w.alike, w.count))

pub returns-then-not-rest_zero : goal.returns-then-not-rest_zero
returns-then-not-rest_zero c =
    let e = c in
    let s = c in
    let h = e.number_at-held in
    let k = e.number_at-next in
    let q = c.number_at-count in
    rest_not s.args.buffer.now _ _ s.args.size s.requires.0 s.requires.1 h.result k.result h.ensures.0 k.ensures.0 (sym c.place_fits.ensures ∙ c.if-not-place_fits.false) q.result q.ensures.0 (omega arith) (sym c.rest_zero.ensures ∙ c.if-not-rest_zero.true)

pub walk_back-requires : goal.walk_back-requires
walk_back-requires c =
    let e = c in
    let s = c in
    let h = e.number_at-held in
    let k = e.number_at-next in
    let q = c.number_at-count in
    let v : to_z w64 (of_z w64 s.args.value) ≡ s.args.value = back s.args.value s.ranges.value in
    (window_part s.args.buffer.now s.args.value s.args.leaders.now s.args.size s.requires.0 s.requires.1 h.result k.result h.ensures.0 k.ensures.0 (sym c.place_fits.ensures ∙ c.if-not-place_fits.false) q.result q.ensures.0 (omega arith) _, rw v s.requires.2, s.requires.3)

pub returns : goal.returns
returns c =
    let e = c in
    let s = c in
    let h = e.number_at-held in
    let k = e.number_at-next in
    let q = c.number_at-count in
    let z = c in
    let v : to_z w64 (of_z w64 s.args.value) ≡ s.args.value = back s.args.value s.ranges.value in
    values_by s.args.buffer.now s.args.value c.walk_back.new.leaders s.args.size s.requires.0 s.requires.1 h.result k.result h.ensures.0 k.ensures.0 (sym c.place_fits.ensures ∙ c.if-not-place_fits.false) q.result q.ensures.0 (omega arith)
    (sym z.rest_zero.ensures ∙ z.if-not-rest_zero.false) _
    (let f : SFits w64 (get_or s.args.buffer.now 3 (pos 0)) = search rules in to_z-of_z f) (rw v at c.walk_back.ensures)
