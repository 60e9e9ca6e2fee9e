use native.Mathlib.Omega.{arith}
use mathlib.Core.Path.{◌≡◌, sym, ap, ◌∙◌}
use mathlib.Core.Bool.{true}
use Rattle.theory_program.specs.Addresses.{segment_at}
use Rattle.theory_program.specs.WordsStand.{stands_within}
use Rattle.run_moves.specs.Held.{bounds}
use Rattle.run_next_token.specs.Reading.{can_read_plain, plain_of, reaches_none, turned_reaches, turned_plain}
use Rattle.run_next_token.proofs.read_on.Goals.{Then-can_read_plain}
use Rattle.run_next_token.proofs.read_on.Goals as goal

-- the read is at hand
at_hand : (c : Then-can_read_plain) → (let a = c.args in can_read_plain a.program.now a.run a.look ≡ true)
at_hand c = sym c.can_read_plain.ensures ∙ c.if-can_read_plain.true

pub can_read_plain-requires : goal.can_read_plain-requires
can_read_plain-requires c =
    let p = c.requires in
    let h = p.0.1.held in
    ((bounds h).inside, omega (arith, stands_within (segment_at h.begins)), p.1)

pub read_plain-requires : goal.read_plain-requires
read_plain-requires c =
    let t = c.before.before in
    let s = t.before.before.before.before in
    let r = s.requires.0.1 in
    let k = plain_of s.args.program.now s.args.run s.args.look (at_hand (record { before = t; type_inv = record { program = t.shared_slice_known-1.given; places = t.slice_known-1.given } })) in
    (s.requires.0.0, record { grammar = r.grammar; lent = r.lent; config = r.config; held = r.held; limit = omega (arith, k.2, (bounds r.held).moves); operation = omega (arith, k.0) })

pub returns-then-can_read_plain : goal.returns-then-can_read_plain
returns-then-can_read_plain c = λ bound most us vs rs i even j e.
    let t = c.before.before.before.before.before in
    let s = t.before.before.before.before in
    let a = s.args in
    turned_reaches (turned_plain bound most a.program.now us vs rs a.places.now a.run i even j (omega (arith, e, s.requires.1))
    (ap (can_read_plain a.program.now a.run) e ∙ at_hand (record { before = t; type_inv = record { program = t.shared_slice_known-1.given; places = t.slice_known-1.given } })) (c.read_plain.ensures rs))

pub returns-else-can_read_plain : goal.returns-else-can_read_plain
returns-else-can_read_plain c = λ bound most us vs rs i even j e. reaches_none
