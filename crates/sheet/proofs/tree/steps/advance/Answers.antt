use mathlib.Core.Path.{sym, subst}
use lib.Seq.{length-take-le}
use lib.ListN.{get_or}
use Rattle.theory_program.specs.Parts.{head_operation}
use Rattle.sheet.specs.tree.moves.NodeInMemory.{Walking, IsLook}
use Rattle.sheet.specs.tree.steps.Numbers.{low, walked_as}
use Rattle.sheet.specs.tree.steps.Cycle.{Passes}
use Rattle.sheet.specs.tree.steps.Walks.{pass_whole}
use Rattle.sheet.proofs.tree.steps.advance.Goals as goal

pub slice_bounds-pass-end-2 : goal.slice_bounds-pass-end-2
slice_bounds-pass-end-2 c = sym (length-take-le _ _ c.requires.fits.registers)

pub slice_bounds-pass-end-4 : goal.slice_bounds-pass-end-4
slice_bounds-pass-end-4 c = sym (length-take-le _ _ c.requires.fits.places)

pub pass-ended-requires : goal.pass-ended-requires
pass-ended-requires c =
    let ws = c.args.program.now in
    let m = c.args.registers.now in
    let ps = c.args.places.now in
    let n = c.args.numbers.now in
    let run = c.run_of-run in
    let ks = c.args.kinds.now in
    let vs = c.args.values.now in
    (subst (λ z. Walking ws ks vs (low 6 n m) (low 7 n ps) z) (sym run.ensures) c.requires.walking, subst (λ z. IsLook (head_operation (get_or ws z.at 0))) (sym run.ensures) c.requires.look)

pub returns : goal.returns
returns c =
    let ws = c.args.program.now in
    let m = c.args.registers.now in
    let ps = c.args.places.now in
    let n = c.args.numbers.now in
    let run = c.run_of-run in
    let ks = c.args.kinds.now in
    let vs = c.args.values.now in
    let p = c.pass-ended in
    let t = c.store_end in
    let x : Passes ws ks vs (low 6 n m) (low 7 n ps) run.result (get_or n 5 0) p.new.registers p.new.places (walked_as p.result (get_or n 5 0)) = p.ensures.0 (get_or n 5 0) in
    pass_whole c.requires.fits p.new.registers p.new.places p.auto.registers p.auto.places p.result t.result _ t.ensures ws ks vs
    (subst (λ z. Passes ws ks vs (low 6 n m) (low 7 n ps) z (get_or n 5 0) p.new.registers p.new.places (walked_as p.result (get_or n 5 0))) run.ensures x)
    (p.ensures.1 (get_or n 5 0))
