use native.Mathlib.Omega.{arith}
use mathlib.Core.Path.{sym, subst}
use lib.Seq.{length-take-le}
use lib.ListN.{get_or}
use Rattle.sheet.specs.tree.nodes.Counting.{Nested, Counted}
use Rattle.sheet.specs.tree.nodes.Recording.{nested}
use Rattle.sheet.specs.tree.steps.Numbers.{low, run_in, kept_fits}
use Rattle.sheet.specs.tree.steps.Cycle.{enters_inner}
use Rattle.sheet.specs.tree.steps.Walks.{PassOut, enter_fails, enter_opens, enter_few}
use Rattle.sheet.proofs.tree.steps.enter.Goals as goal

pub advance-requires : goal.advance-requires
advance-requires c =
    let q = c.requires in
    record { walking = q.walking; look = (omega (arith, q.three), omega (arith, q.three)); fits = q.fits }

pub slice_bounds-attributes-end-then-advance : goal.slice_bounds-attributes-end-then-advance
slice_bounds-attributes-end-then-advance c =
    let s = c in
    let x = subst (λ z. PassOut s.args.program.now s.args.kinds.now s.args.values.now s.args.registers.now s.args.places.now s.args.numbers.now s.advance.new.registers s.advance.new.places z s.advance.new.numbers) c.if-advance.true s.advance.ensures in
    sym (length-take-le _ _ (kept_fits s.requires.fits x.kept).places)

pub attributes-sizes-requires : goal.attributes-sizes-requires
attributes-sizes-requires c =
    let s = c in
    let x = subst (λ z. PassOut s.args.program.now s.args.kinds.now s.args.values.now s.args.registers.now s.args.places.now s.args.numbers.now s.advance.new.registers s.advance.new.places z s.advance.new.numbers) c.if-advance.true s.advance.ensures in
    let p = c.advance in
    let n = s.args.numbers.now in
    let n₁ = p.new.numbers in
    let i = enters_inner s.args.kinds.now s.args.values.now (get_or n 5 0) (low 6 n₁ p.new.registers) (low 7 n₁ p.new.places) (run_in n₁) (get_or n₁ 5 0) (x.passes.1 s.requires.three) s.requires.walking in
    subst (λ z. Nested s.args.program.now (low 7 n₁ p.new.places) z) (sym c.run_of-run.ensures) (nested i)

pub overflow_mul-numbers : goal.overflow_mul-numbers
overflow_mul-numbers c =
    let s = c in
    let x = subst (λ z. PassOut s.args.program.now s.args.kinds.now s.args.values.now s.args.registers.now s.args.places.now s.args.numbers.now s.advance.new.registers s.advance.new.places z s.advance.new.numbers) c.if-advance.true s.advance.ensures in
    omega (arith, enter_few s.requires.three s.requires.walking x c.attributes-sizes.result (subst (λ z. Counted s.args.program.now (low 7 s.advance.new.numbers s.advance.new.places) z c.attributes-sizes.result) c.run_of-run.ensures c.attributes-sizes.ensures))

pub overflow_add-numbers : goal.overflow_add-numbers
overflow_add-numbers c =
    let s = c in
    let x = subst (λ z. PassOut s.args.program.now s.args.kinds.now s.args.values.now s.args.registers.now s.args.places.now s.args.numbers.now s.advance.new.registers s.advance.new.places z s.advance.new.numbers) c.if-advance.true s.advance.ensures in
    omega (arith, enter_few s.requires.three s.requires.walking x c.attributes-sizes.result (subst (λ z. Counted s.args.program.now (low 7 s.advance.new.numbers s.advance.new.places) z c.attributes-sizes.result) c.run_of-run.ensures c.attributes-sizes.ensures))

pub overflow_add-numbers-then-advance : goal.overflow_add-numbers-then-advance
overflow_add-numbers-then-advance c =
    let s = c in
    let x = subst (λ z. PassOut s.args.program.now s.args.kinds.now s.args.values.now s.args.registers.now s.args.places.now s.args.numbers.now s.advance.new.registers s.advance.new.places z s.advance.new.numbers) c.if-advance.true s.advance.ensures in
    omega (arith, s.requires.room, enter_few s.requires.three s.requires.walking x c.attributes-sizes.result (subst (λ z. Counted s.args.program.now (low 7 s.advance.new.numbers s.advance.new.places) z c.attributes-sizes.result) c.run_of-run.ensures c.attributes-sizes.ensures))

pub returns-then-advance : goal.returns-then-advance
returns-then-advance c =
    let s = c in
    let x = subst (λ z. PassOut s.args.program.now s.args.kinds.now s.args.values.now s.args.registers.now s.args.places.now s.args.numbers.now s.advance.new.registers s.advance.new.places z s.advance.new.numbers) c.if-advance.true s.advance.ensures in
    enter_opens s.requires.three x c.attributes-sizes.result (subst (λ z. Counted s.args.program.now (low 7 s.advance.new.numbers s.advance.new.places) z c.attributes-sizes.result) c.run_of-run.ensures c.attributes-sizes.ensures)

pub returns : goal.returns
returns c =
    let s = c in
    let x = subst (λ z. PassOut s.args.program.now s.args.kinds.now s.args.values.now s.args.registers.now s.args.places.now s.args.numbers.now s.advance.new.registers s.advance.new.places z s.advance.new.numbers) c.if-advance.false s.advance.ensures in
    enter_fails s.requires.three x
