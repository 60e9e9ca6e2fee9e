use Prim.Native.Nat.{◌+◌, ◌≤◌, ◌<◌}
use native.Mathlib.Omega.{arith}
use mathlib.Core.Path.{◌≡◌, sym, ap, ◌∙◌}
use mathlib.Core.Bool.{true}
use lib.ListN.{length}
use Rattle.meaning.specs.Limits.{productions_limit}
use Rattle.meaning.specs.Machine.{moves_limit}
use Rattle.theory_program.specs.Parts.{directory_number, directory_scheme}
use Rattle.theory_program.specs.Addresses.{segment_at}
use Rattle.theory_program.specs.WordsStand.{stands_within}
use Rattle.run_moves.specs.Held.{bounds}
use Rattle.run_next_token.specs.Reading.{can_read_plain}
use Rattle.run_turn.specs.entering.Predicting.{after_predict, entering_number, entering_full, entering_pushes, entering_holds, entering_inside, entering_reads}
use Rattle.run_turn.proofs.entering.enter_and_read.Goals.{After-counted-pushed, Else-height-places, Start, Then-can_read_plain}
use Rattle.run_turn.proofs.entering.enter_and_read.Goals as goal

abbrev start : Else-height-places → Start
start c = c.before.before.before.before

-- there is room for a place
room : (c : Else-height-places) → (let a = (start c).args in a.run.places < length a.places.now)
room c = omega (arith, c.if-height-places.false, (bounds (start c).requires.0.1.held).places)

small : (s : Start) → (1 ≤ directory_number s.args.entry) × (directory_number s.args.entry ≤ productions_limit)
small s = let p = s.requires in entering_number s.args.program.now s.args.places.now s.args.run s.args.look s.args.entry p.1 p.2 p.3 p.0.1

-- where the run after the predict is made
abbrev else-of : After-counted-pushed → Else-height-places
else-of c = (record { before = c.before.before.before.before; type_inv = record { program = c.before.before.before.before.shared_slice_known-1.given; places = c.before.before.before.before.slice_known-1.given } })

-- the read comes next
plain : (c : Then-can_read_plain) → (let a = (start (else-of (record { before = c.before.before.before; type_inv = record { program = c.before.before.before.shared_slice_known-1.given; places = c.before.before.before.slice_known-1.given } }))).args in can_read_plain a.program.now (after_predict a.run (directory_scheme a.entry)) a.look ≡ true)
plain c =
    let k = c.before.before in
    let n = k.before in
    let a = (start (else-of (record { before = n; type_inv = record { program = n.shared_slice_known-1.given; places = n.slice_known-1.given } }))).args in
    rw (n.counted-pushed.ensures, n.directory_scheme-at.ensures) at (sym k.can_read_plain.ensures ∙ c.if-can_read_plain.true)

inside : (c : Then-can_read_plain) → (let a = (start (else-of (record { before = c.before.before.before; type_inv = record { program = c.before.before.before.shared_slice_known-1.given; places = c.before.before.before.slice_known-1.given } }))).args in (directory_scheme a.entry + 1 < length a.program.now) × (a.run.moves + 1 < moves_limit))
inside c =
    let e = else-of (record { before = c.before.before.before; type_inv = record { program = c.before.before.before.shared_slice_known-1.given; places = c.before.before.before.slice_known-1.given } }) in
    let s = start e in
    let p = s.requires in
    let r = p.0.1 in
    entering_inside s.args.program.now s.args.places.now s.args.run s.args.look s.args.entry p.1 p.2 p.3 r.operation r.limit (room e) (plain c) r

pub returns-then-height-places : goal.returns-then-height-places
returns-then-height-places c =
    let s = c.before.before.before.before in
    let p = s.requires in
    let r = p.0.1 in
    entering_full s.args.program.now s.args.places.now s.args.run s.args.look s.args.entry p.1 p.2 p.3 r.operation r.limit c.if-height-places.true

pub overflow_sub-production : goal.overflow_sub-production
overflow_sub-production c = omega (arith, c.directory_number-production.ensures, (small (start (record { before = c.before.before.before; type_inv = record { program = c.before.before.before.shared_slice_known-1.given; places = c.before.before.before.slice_known-1.given } }))).0)

pub counted-pushed-requires : goal.counted-pushed-requires
counted-pushed-requires c = (start (record { before = c.before.before.before; type_inv = record { program = c.before.before.before.shared_slice_known-1.given; places = c.before.before.before.slice_known-1.given } })).requires.0.1.limit

pub overflow_add-next : goal.overflow_add-next
overflow_add-next c = record { fits = omega (arith, room (else-of c), c.well_formed.0.0) }

pub can_read_plain-requires : goal.can_read_plain-requires
can_read_plain-requires c =
    let e = else-of c in
    let s = start e in
    let p = s.requires in
    let r = p.0.1 in
    let h = (entering_holds s.args.program.now s.args.places.now s.args.run s.args.look s.args.entry p.1 p.2 p.3 r.operation r.limit (room e) r).held in
    (omega (arith, (bounds h).inside, ap (λ x. x.at) c.counted-pushed.ensures, c.directory_scheme-at.ensures), omega (arith, stands_within (segment_at h.begins)), p.1)

pub overflow_add-at : goal.overflow_add-at
overflow_add-at c = omega (arith, (inside (record { before = c.before.before; type_inv = record { program = c.before.before.shared_slice_known-1.given; places = c.before.before.slice_known-1.given } })).0, c.directory_scheme-at.ensures)

pub push_read-requires : goal.push_read-requires
push_read-requires c =
    let t = c.before.before in
    let n = t.before.before.before in
    let e = n.before.before in
    (room (record { before = e; type_inv = record { program = e.shared_slice_known-1.given; places = e.slice_known-1.given } }), omega (arith, n.directory_number-production.ensures, small (start (record { before = e; type_inv = record { program = e.shared_slice_known-1.given; places = e.slice_known-1.given } }))), omega (arith, (inside (record { before = t; type_inv = record { program = t.shared_slice_known-1.given; places = t.slice_known-1.given } })).0, n.directory_scheme-at.ensures))

pub counted-after-requires : goal.counted-after-requires
counted-after-requires c =
    let t = c.before.before.before.before.before in
    omega (arith, (inside (record { before = t; type_inv = record { program = t.shared_slice_known-1.given; places = t.slice_known-1.given } })).1, ap (λ x. x.moves) t.counted-pushed.ensures)

pub overflow_add-result : goal.overflow_add-result
overflow_add-result c =
    let h = (start (else-of (record { before = c.before.before.before.before.before.before.before.before.before; type_inv = record { program = c.before.before.before.before.before.before.before.before.before.shared_slice_known-1.given; places = c.before.before.before.before.before.before.before.before.before.slice_known-1.given } }))).requires.0.1.held in
    record { fits = omega (arith, h.tokens, h.few_tokens) }

pub returns-then-can_read_plain : goal.returns-then-can_read_plain
returns-then-can_read_plain c =
    let m = c.before.before in
    let q = m.before.before.before in
    let t = q.before.before in
    let w = t.before.before in
    let n = w.before in
    let d = n.before in
    let e = d.before in
    let s = start (record { before = e; type_inv = record { program = e.shared_slice_known-1.given; places = e.slice_known-1.given } }) in
    let p = s.requires in
    let r = p.0.1 in
    rw (q.push_read.ensures, m.counted-after.ensures, w.counted-pushed.ensures, d.directory_scheme-at.ensures, n.directory_number-production.ensures)
    (entering_reads s.args.program.now s.args.places.now s.args.run s.args.look s.args.entry p.1 p.2 p.3 r.operation r.limit (room (record { before = e; type_inv = record { program = e.shared_slice_known-1.given; places = e.slice_known-1.given } })) (plain (record { before = t; type_inv = record { program = t.shared_slice_known-1.given; places = t.slice_known-1.given } })) (inside (record { before = t; type_inv = record { program = t.shared_slice_known-1.given; places = t.slice_known-1.given } })).1)

pub push-requires : goal.push-requires
push-requires c =
    let n = c.before.before.before.before.before in
    let e = n.before.before in
    (room (record { before = e; type_inv = record { program = e.shared_slice_known-1.given; places = e.slice_known-1.given } }), omega (arith, n.directory_number-production.ensures, small (start (record { before = e; type_inv = record { program = e.shared_slice_known-1.given; places = e.slice_known-1.given } }))))

pub returns : goal.returns
returns c =
    let q = c.before.before.before in
    let w = q.before.before.before.before in
    let n = w.before in
    let d = n.before in
    let e = d.before in
    let s = start (record { before = e; type_inv = record { program = e.shared_slice_known-1.given; places = e.slice_known-1.given } }) in
    let p = s.requires in
    let r = p.0.1 in
    rw (q.push.ensures, w.counted-pushed.ensures, d.directory_scheme-at.ensures, n.directory_number-production.ensures)
    (entering_pushes s.args.program.now s.args.places.now s.args.run s.args.look s.args.entry p.1 p.2 p.3 r.operation r.limit (room (record { before = e; type_inv = record { program = e.shared_slice_known-1.given; places = e.slice_known-1.given } })))
