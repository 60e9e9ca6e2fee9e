use Prim.Native.Nat.{◌+◌, ◌*◌}
use mathlib.Core.Path.{◌≡◌, refl, sym, ap, ◌∙◌}
use lib.ListN.{get_or}
use Rattle.theory_program.specs.Parts.{head_operand, directory_number}
use Rattle.run_moves.specs.Held.{bounds}
use Rattle.run_predict.specs.Entering.{directory_inside, blocked_unexpected}
use Rattle.run_predict.proofs.predict.Goals.{After-directory_number-first, Start}
use Rattle.run_predict.proofs.predict.Goals as goal

abbrev start : After-directory_number-first → Start
start c = c.before.before.before.before.before

-- the number in the directory's word
number : (c : After-directory_number-first) → (let a = (start c).args in c.directory_number-first.result ≡ directory_number (get_or a.program.now (9 + 64 * head_operand (get_or a.program.now a.run.at 0) + a.look) 0))
number c = c.directory_number-first.ensures ∙ ap directory_number c.entry_at.ensures

pub entry_at-requires : goal.entry_at-requires
entry_at-requires c =
    let s = c.before.before.before in
    let r = s.requires.0 in
    ((bounds r.held).inside, s.requires.1, directory_inside r.held r.operation s.args.look s.requires.1)

pub returns-then-first-eq0 : goal.returns-then-first-eq0
returns-then-first-eq0 c =
    let t = c.before.before in
    let n = t.before in
    let b = start (record { before = n; type_inv = record { program = n.shared_slice_known-1.given; places = n.slice_known-1.given } }) in
    let r = b.requires.0 in
    ((λ a q g lent d h ok. blocked_unexpected h r.operation b.args.look b.requires.1 a q r.limit (sym (number (record { before = n; type_inv = record { program = n.shared_slice_known-1.given; places = n.slice_known-1.given } })) ∙ t.if-first-eq0.true) c.unexpected.result c.unexpected.ensures), refl)

pub search-requires : goal.search-requires
search-requires c =
    let e = c.before.before in
    let n = e.before in
    ((start (record { before = n; type_inv = record { program = n.shared_slice_known-1.given; places = n.slice_known-1.given } })).requires, (number (record { before = n; type_inv = record { program = n.shared_slice_known-1.given; places = n.slice_known-1.given } }), e.if-first-eq0.false))

pub returns : goal.returns
returns c = c.search.ensures
