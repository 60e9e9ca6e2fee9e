use Prim.Native.Nat.{◌+◌, ◌*◌, ◌≤◌}
use native.Mathlib.Omega.{arith}
use mathlib.Core.Path.{◌≡◌, refl, sym, ap, ◌∙◌, subst₂}
use lib.ListN.{length, get_or}
use Rattle.meaning.specs.Limits.{productions_limit}
use Rattle.meaning.specs.Value.{mark}
use Rattle.meaning.specs.Machine.{next}
use Rattle.theory_program.specs.Parts.{head_operand, directory_number}
use Rattle.theory_program.specs.Addresses.{segment_at}
use Rattle.theory_program.specs.WordsStand.{stands_within}
use Rattle.run_predict.specs.alternatives.Predicting.{record_of}
use Rattle.run_moves.specs.Held.{Made, bounds}
use Rattle.run_moves.specs.Passing.{coming_of, coming_look}
use Rattle.run_predict.specs.Entering.{tokens_of, entered_tokens, first_led, first_holds, found_first, blocked_none, entering_small, entering_inside, made_entering}
use Rattle.run_predict.proofs.search.Goals.{After-find-p, Else-p-eq0, Start}
use Rattle.run_predict.proofs.search.Goals as goal

abbrev start : After-find-p → Start
start c = c.before.before.before.before

-- the directory names an alternative
some_first : (s : Start) → (let a = s.args in directory_number (get_or a.program.now (9 + 64 * head_operand (get_or a.program.now a.run.at 0) + a.look) 0) ≡ 0 → ⊥)
some_first s e = s.requires.1.1 (s.requires.1.0 ∙ e)

-- the production found is listed
small : (c : Else-p-eq0) → c.find-p.result ≤ productions_limit
small c =
    let f = c.before.before in
    let b = start (record { before = f; type_inv = record { program = f.shared_slice_known-1.given; places = f.slice_known-1.given } }) in
    let r = b.requires.0.0 in
    entering_small r.held r.operation b.args.look b.requires.0.1 (coming_of b.args.look mark) (coming_look b.args.look mark) r.limit (some_first b) f.find-p.result
    (found_first r.held r.operation b.args.look b.requires.0.1 f.find-p.result b.args.first b.requires.1.0 f.find-p.ensures) c.if-p-eq0.false

inside : (c : Else-p-eq0) → (let a = (start (record { before = c.before.before; type_inv = record { program = c.before.before.shared_slice_known-1.given; places = c.before.before.slice_known-1.given } })).args in record_of a.program.now c.find-p.result + 8 ≤ length a.program.now)
inside c =
    let f = c.before.before in
    let b = start (record { before = f; type_inv = record { program = f.shared_slice_known-1.given; places = f.slice_known-1.given } }) in
    let r = b.requires.0.0 in
    entering_inside r.held r.operation b.args.look b.requires.0.1 (coming_of b.args.look mark) (coming_look b.args.look mark) r.limit (some_first b) f.find-p.result
    (found_first r.held r.operation b.args.look b.requires.0.1 f.find-p.result b.args.first b.requires.1.0 f.find-p.ensures) c.if-p-eq0.false

pub find-p-requires : goal.find-p-requires
find-p-requires c =
    let b = c.before.before.before in
    let r = b.requires.0.0 in
    let h = r.held in
    (((bounds h).registers, b.requires.0.1, rw b.requires.1.0 (first_led h r.operation b.args.look b.requires.0.1)), (b.requires.1.1, rw b.requires.1.0 (first_holds h r.operation b.args.look b.requires.0.1 (some_first b))))

pub returns-then-p-eq0 : goal.returns-then-p-eq0
returns-then-p-eq0 c =
    let f = c.before.before in
    let b = start (record { before = f; type_inv = record { program = f.shared_slice_known-1.given; places = f.slice_known-1.given } }) in
    let r = b.requires.0.0 in (
      (λ a q g lent d h ok.
          blocked_none h r.operation b.args.look b.requires.0.1 a q r.limit (some_first b) f.find-p.result
          (found_first h r.operation b.args.look b.requires.0.1 f.find-p.result b.args.first b.requires.1.0 f.find-p.ensures) c.if-p-eq0.true),
      refl,
    )

pub record_of-requires : goal.record_of-requires
record_of-requires c = (omega (arith, stands_within (segment_at (start (record { before = c.before.before; type_inv = record { program = c.before.before.shared_slice_known-1.given; places = c.before.before.slice_known-1.given } })).requires.0.0.held.begins)), omega (arith, c.if-p-eq0.false), small c)

pub overflow_add-record_of : goal.overflow_add-record_of
overflow_add-record_of c = omega (arith, inside (record { before = c.before.before; type_inv = record { program = c.before.before.shared_slice_known-1.given; places = c.before.before.slice_known-1.given } }), c.record_of.ensures)

pub word_at-at-requires : goal.word_at-at-requires
word_at-at-requires c = omega (arith, inside (record { before = c.before.before; type_inv = record { program = c.before.before.shared_slice_known-1.given; places = c.before.before.slice_known-1.given } }), c.record_of.ensures)

pub enter-requires : goal.enter-requires
enter-requires c =
    let e = c.before.before.before.before in
    let r = (start (record { before = e.before; type_inv = record { program = e.before.shared_slice_known-1.given; places = e.before.slice_known-1.given } })).requires.0.0 in
    (omega (arith, e.if-p-eq0.false), small (record { before = e; type_inv = record { program = e.shared_slice_known-1.given; places = e.slice_known-1.given } }), (bounds r.held).places, r.limit)

pub returns : goal.returns
returns c =
    let k = c.before.before.before in
    let w = k.before.before in
    let e = w.before.before in
    let f = e.before in
    let b = start (record { before = f; type_inv = record { program = f.shared_slice_known-1.given; places = f.slice_known-1.given } }) in
    let r = b.requires.0.0 in
    let scheme = w.word_at-at.ensures.0 ∙ ap (λ z. get_or b.args.program.now (z + 6) 0) w.record_of.ensures in (
      (λ a q g lent d h ok.
          subst₂ (λ x y. Made g b.args.program.now lent (next g lent a d) b.args.registers.now b.args.places.now b.args.registers.now x y) (sym k.enter.ensures.1) (sym k.enter.ensures.0)
          (made_entering h r.operation b.args.look b.requires.0.1 a q r.limit (some_first b) f.find-p.result
          (found_first h r.operation b.args.look b.requires.0.1 f.find-p.result b.args.first b.requires.1.0 f.find-p.ensures) e.if-p-eq0.false ok w.word_at-at.result scheme (bounds h).places)),
      ap (tokens_of b.args.run) k.enter.ensures.0 ∙ entered_tokens b.args.run w.word_at-at.result (length b.args.places.now),
    )
