use Prim.Native.Nat.{◌+◌, ◌-◌, ◌*◌}
use native.Mathlib.Omega.{arith}
use mathlib.Core.Path.{◌≡◌, sym, ap, ◌∙◌}
use borrow.Author.Rules.{rules}
use lib.Dec.{eqb}
use Prim.Native.Nat.{ℕ, ◌<◌, ◌≤◌}
use mathlib.Core.List.{List}
use Rattle.std.specs.List.{prefix_len}
use Rattle.std.proofs.lemmas.List.Sums.{prefix_len-le-length}
use lib.ListN.{length, get_or, take, drop, length-take}
use Rattle.meaning.specs.Grammar.{Grammar, nonterminal, nonterminal_base}
use Rattle.theory_program.specs.Parts.{head_operand, wait_left, wait_symbol}
use Rattle.run_fit.specs.HasProgram.{HasProgram, wait_at, header_inside}
use Rattle.run_fit.proofs.Places.{stands, follow, follow_start, follow_not, follow_turn, follow_alike, alike_from, follow_past, follow_end}
use Rattle.run_fit.proofs.stand_above.Goals.{After-past_place-reached, After-wait_word-next, Else-place-below}
use Rattle.run_fit.proofs.stand_above.Goals as goal

pub word_at-requires : goal.word_at-requires
word_at-requires c = omega (arith, header_inside c.requires.1.shown)

pub loop-i-init : goal.loop-i-init
loop-i-init c =
    let s = c.before.before.before.before.before.before in
    let first = c.operand.ensures ∙ ap head_operand c.word_at.ensures.0 in
    let a = s.args in (
      s.requires.0,
      (λ l. omega arith),
      λ g h. follow_start h (drop 1 a.places.now) a.registers.now a.at ∙ ap (λ n. follow g ((nonterminal_base + n) * 2097152) (drop 1 a.places.now) a.registers.now a.at) (sym first),
    )

pub word_at-place-requires : goal.word_at-place-requires
word_at-place-requires c = search rules

-- ---- a place that is not the one below

pub wait_word-next-requires : goal.wait_word-next-requires
wait_word-next-requires c =
    let p = c.before.before.before.before.before.before.before in
    (p.requires.1, p.read_rows-rows.ensures)

-- the word that was read is that of the place at hand
word_is : (c : After-wait_word-next)
    → let a = c.args in
    c.wait_word-next.result ≡ wait_at a.program.now (get_or a.places.now c.loop-i.i 0)
word_is c = c.wait_word-next.ensures ∙ ap (wait_at c.args.program.now) c.word_at-place.ensures.0

pub returns-then-not-stands_on : goal.returns-then-not-stands_on
returns-then-not-stands_on c =
    let w = c.before.before.before in
    let m = w.before.before.before.before in
    let l = m.loop-i in
    let a = m.args in
    let off = ap (λ v. eqb (nonterminal_base + wait_left v) (wait_symbol l.word)) (sym (word_is (record { before = w; type_inv = record { program = w.shared_slice_known-2-1.given; places = w.shared_slice_known-1.given } }))) ∙ (sym c.stands_on.ensures ∙ c.if-not-stands_on.true) in
    λ g h. sym (l.invariant.2 g h ∙ follow_not h a.registers.now a.places.now l.i l.reached l.word w.loop-i-test.true off)

pub past_place-reached-requires : goal.past_place-reached-requires
past_place-reached-requires c = c.loop-i.invariant.0

turned : (c : After-past_place-reached)
    → let w = c.before.before.before.before in
    let m = w.before.before.before.before in
    let a = m.args in
    (g : Grammar) → HasProgram g a.program.now → stands g (nonterminal g.start) (drop 1 a.places.now) a.registers.now a.at ≡ follow g w.wait_word-next.result (drop (m.loop-i.i + 1) a.places.now) a.registers.now c.past_place-reached.result
turned c =
    let w = c.before.before.before.before in
    let m = w.before.before.before.before in
    let l = m.loop-i in
    let a = m.args in
    let e = word_is (record { before = w; type_inv = record { program = w.shared_slice_known-2-1.given; places = w.shared_slice_known-1.given } }) in
    let on = ap (λ v. eqb (nonterminal_base + wait_left v) (wait_symbol l.word)) (sym e) ∙ (sym c.stands_on.ensures ∙ c.if-not-stands_on.false) in
    let p = rw e at c.past_place-reached.ensures in
    λ g h. l.invariant.2 g h
    ∙ (follow_turn h a.registers.now a.places.now l.i l.reached l.word w.loop-i-test.true on p
    ∙ ap (λ v. follow g v (drop (l.i + 1) a.places.now) a.registers.now c.past_place-reached.result) (sym e))

pub returns-then-registers-reached : goal.returns-then-registers-reached
returns-then-registers-reached c =
    let w = c.before.before.before.before.before in
    let m = w.before.before.before.before in
    let a = m.args in
    λ g h. sym (turned (record { before = c.before.before; type_inv = record { program = c.before.before.shared_slice_known-2-1.given; places = c.before.before.shared_slice_known-1.given } }) g h ∙ follow_past g w.wait_word-next.result (drop (m.loop-i.i + 1) a.places.now) a.registers.now c.past_place-reached.result c.if-registers-reached.true)

pub loop-i-smaller-then-place-below : goal.loop-i-smaller-then-place-below
loop-i-smaller-then-place-below c = omega arith

pub loop-i-preserved-then-place-below : goal.loop-i-preserved-then-place-below
loop-i-preserved-then-place-below c = (c.past_place-reached.ensures.inside, (λ l. c.wait_word-next.ensures), turned (record { before = c.before.before; type_inv = record { program = c.before.before.shared_slice_known-2-1.given; places = c.before.before.shared_slice_known-1.given } }))

-- ---- a place that is the one below, and those above it that are the same

same_word : (c : Else-place-below) → c.loop-i.word ≡ wait_at c.args.program.now c.word_at-place.result
same_word c = c.loop-i.invariant.1 (omega (arith, c.word_at-place.ensures.1, c.if-place-below.false)) ∙ ap (wait_at c.args.program.now) (sym c.if-place-below.false)

pub returns-then-not-stands_on-2 : goal.returns-then-not-stands_on-2
returns-then-not-stands_on-2 c =
    let k = c.before.before.before in
    let m = k.before.before.before in
    let l = m.loop-i in
    let a = m.args in
    let e = same_word (record { before = k; type_inv = record { program = k.shared_slice_known-2-1.given; places = k.shared_slice_known-1.given } }) ∙ ap (wait_at a.program.now) k.word_at-place.ensures.0 in
    let off = ap (λ v. eqb (nonterminal_base + wait_left v) (wait_symbol l.word)) (sym e) ∙ (sym c.stands_on-else-place-below.ensures ∙ c.if-not-stands_on-2.true) in
    λ g h. sym (l.invariant.2 g h ∙ follow_not h a.registers.now a.places.now l.i l.reached l.word k.loop-i-test.true off)

pub past_alike-reached-requires : goal.past_alike-reached-requires
past_alike-reached-requires c = c.loop-i.invariant.0

-- ---- no place is left

pub past_valued-requires : goal.past_valued-requires
past_valued-requires c = (c.loop-i.invariant.0, omega (arith, c.wait_inherited.ensures))

-- no more places are left than stand above this one
left_over : (places : List ℕ) (i p n : ℕ) → n ≡ prefix_len (λ x. eqb x p) (take (length places - (i + 1)) (drop (i + 1) places)) → i < length places → i + (1 + n) ≤ length places
left_over places i p n e l =
    let rest = take (length places - (i + 1)) (drop (i + 1) places) in
    omega (arith, e, prefix_len-le-length (λ x. eqb x p) rest, length-take (length places - (i + 1)) (drop (i + 1) places))

pub overflow_add-times : goal.overflow_add-times
overflow_add-times c = record { fits = omega (arith, left_over c.args.places.now c.loop-i.i c.word_at-place.result c.alike-times.result c.alike-times.ensures c.loop-i-test.true) }

pub overflow_add-i-else-place-below-2 : goal.overflow_add-i-else-place-below-2
overflow_add-i-else-place-below-2 c = record { fits = omega (arith, left_over c.args.places.now c.loop-i.i c.word_at-place.result c.alike-times.result c.alike-times.ensures c.loop-i-test.true) }

pub loop-i-preserved : goal.loop-i-preserved
loop-i-preserved c =
    let l = c.loop-i in
    let a = c.args in
    let p = c.word_at-place in
    let n = c.alike-times.result in
    let on = sym c.stands_on-else-place-below.ensures ∙ c.if-not-stands_on-2.false in
    let run = alike_from a.places.now l.i p.result n c.loop-i-test.true (sym p.ensures.0) c.alike-times.ensures in
    let word = l.invariant.1 (omega (arith, p.ensures.1, c.if-place-below.false)) ∙ ap (wait_at a.program.now) (sym c.if-place-below.false) in (
      c.past_alike-reached.ensures.inside,
      l.invariant.1,
      λ g h. l.invariant.2 g h
          ∙ (ap (λ z. follow g l.word z a.registers.now l.reached) run
          ∙ follow_alike h a.registers.now p.result l.word word on (1 + n) (drop (l.i + (1 + n)) a.places.now) l.reached c.past_alike-reached.ensures),
    )

pub returns-then-word-ne0 : goal.returns-then-word-ne0
returns-then-word-ne0 c =
    let l = c.loop-i in
    let a = c.args in
    let p = rw c.wait_inherited.ensures at c.past_valued.ensures in
    λ g h. sym (l.invariant.2 g h ∙ follow_end g l.word a.places.now a.registers.now l.i l.reached c.loop-i-test.false c.if-word-ne0.true p)
