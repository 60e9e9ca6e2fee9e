use mathlib.Core.Path.{◌≡◌, sym, subst}
use lib.Seq.{length-take-le}
use lib.ListN.{get_or}
use Prim.Native.Nat.{◌≤◌}
use Rattle.theory_program.specs.Parts.{head_operation}
use Rattle.sheet.specs.tree.nodes.Recording.{Inner}
use Rattle.sheet.specs.tree.steps.Numbers.{low, walked_as}
use Rattle.sheet.specs.tree.steps.Leaving.{Leaves}
use Rattle.sheet.specs.tree.steps.Walks.{left_whole}
use Rattle.meaning.specs.Program.{remove_operation}
use Rattle.sheet.proofs.tree.steps.leave.Goals as goal

pub slice_bounds-depart-end-2 : goal.slice_bounds-depart-end-2
slice_bounds-depart-end-2 c = sym (length-take-le _ _ c.requires.fits.registers)

pub slice_bounds-depart-end-4 : goal.slice_bounds-depart-end-4
slice_bounds-depart-end-4 c = sym (length-take-le _ _ c.requires.fits.places)

pub depart-ended-requires : goal.depart-ended-requires
depart-ended-requires c =
    let ws = c.args.program.now in
    let m = c.args.registers.now in
    let ps = c.args.places.now in
    let n = c.args.numbers.now in
    let run = c.run_of-run in
    let removes = subst (λ z. head_operation (get_or ws z.at 0) ≡ remove_operation) (sym run.ensures) c.requires.five in
    (subst (λ z. Inner ws (low 6 n m) (low 7 n ps) z) (sym run.ensures) c.requires.inner, removes, c.requires.room, subst (λ z. c.args.before ≤ z.tokens) (sym run.ensures) c.requires.earlier, c.requires.few)

pub returns : goal.returns
returns c =
    let ws = c.args.program.now in
    let m = c.args.registers.now in
    let ps = c.args.places.now in
    let n = c.args.numbers.now in
    let run = c.run_of-run in
    let p = c.depart-ended in
    let t = c.store_end in
    let out = p.new.sheet in
    let x : Leaves ws (low 6 n m) (low 7 n ps) run.result c.args.at c.args.before (get_or n 5 0) c.args.sheet.now p.new.registers p.new.places out (walked_as p.result (get_or n 5 0)) = p.ensures.0 (get_or n 5 0) in
    left_whole c.requires.fits p.new.registers p.new.places p.auto.registers p.auto.places p.result t.result _ t.ensures ws c.args.at c.args.before c.args.sheet.now out
    (subst (λ z. Leaves ws (low 6 n m) (low 7 n ps) z c.args.at c.args.before (get_or n 5 0) c.args.sheet.now p.new.registers p.new.places out (walked_as p.result (get_or n 5 0))) run.ensures x)
    (p.ensures.1 (get_or n 5 0))
