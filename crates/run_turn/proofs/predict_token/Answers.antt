use native.Mathlib.Omega.{arith}
use mathlib.Core.Path.{sym, ap, ◌∙◌}
use Rattle.std.specs.Prelude.{Err}
use Rattle.run_moves.specs.Held.{bounds}
use Rattle.run_moves.specs.Passing.{look_of}
use Rattle.run_next_token.specs.Turns.{turned_predict}
use Rattle.run_predict.specs.Entering.{directory_inside, first_zero, blocked_unexpected}
use Rattle.run_turn.proofs.predict_token.Goals.{After-entry_at-entry, Start}
use Rattle.run_turn.proofs.predict_token.Goals as goal

abbrev start : After-entry_at-entry → Start
start c = c.before.before.before.before

pub entry_at-entry-requires : goal.entry_at-entry-requires
entry_at-entry-requires c =
    let s = c.before.before.before in
    let r = s.requires.0 in
    ((bounds r.held).inside, s.requires.1, directory_inside r.held r.operation s.args.look s.requires.1)

pub enter_and_read-requires : goal.enter_and_read-requires
enter_and_read-requires c =
    let t = c.before.before in
    let w = t.before in
    let s = start (record { before = w; type_inv = record { program = w.shared_slice_known-1.given; places = w.slice_known-1.given } }) in
    ((s.args.registers.now, s.requires.0), s.requires.1, w.entry_at-entry.ensures, t.if-entry-ge-DIRECTORY_SCHEME.true)

pub returns-then-entry-ge-DIRECTORY_SCHEME : goal.returns-then-entry-ge-DIRECTORY_SCHEME
returns-then-entry-ge-DIRECTORY_SCHEME c =
    let p = c.before.before.before in
    p.enter_and_read.ensures (start (record { before = p.before.before.before; type_inv = record { program = p.before.before.before.shared_slice_known-1.given; places = p.before.before.before.slice_known-1.given } })).args.registers.now

pub returns-then-entry-eq0 : goal.returns-then-entry-eq0
returns-then-entry-eq0 c =
    let t = c.before.before in
    let w = t.before.before in
    let s = start (record { before = w; type_inv = record { program = w.shared_slice_known-1.given; places = w.slice_known-1.given } }) in
    let a = s.args in
    let r = s.requires.0 in
    let u = a.look in
    λ bound most us vs i even j is.
    turned_predict bound most a.program.now us vs a.registers.now a.places.now a.run i even j a.registers.now a.places.now (Err c.unexpected.result) r.operation (omega (arith, is, s.requires.1))
    (λ l same g lent f h ok. blocked_unexpected h r.operation u s.requires.1 l (same ∙ ap look_of is) r.limit (first_zero h r.operation u s.requires.1 (sym w.entry_at-entry.ensures ∙ t.if-entry-eq0.true)) c.unexpected.result c.unexpected.ensures)

pub search_and_read-requires : goal.search_and_read-requires
search_and_read-requires c =
    let e = c.before.before in
    let w = e.before.before in
    ((start (record { before = w; type_inv = record { program = w.shared_slice_known-1.given; places = w.slice_known-1.given } })).requires, (omega (arith, w.entry_at-entry.ensures, e.if-entry-ge-DIRECTORY_SCHEME.false), e.if-entry-eq0.false))

pub returns : goal.returns
returns c = c.search_and_read.ensures
