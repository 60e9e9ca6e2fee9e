use mathlib.Core.Path.{sym, ap, ap₂, ◌∙◌}
use lib.Seq.{length-take-le}
use Rattle.meaning.specs.PublicCalls.{stacks_of}
use Rattle.sheet.specs.tree.steps.Numbers.{low_written, long_written}
use Rattle.sheet.proofs.open.Goals as goal

pub slice_bounds-open_cells-end-2 : goal.slice_bounds-open_cells-end-2
slice_bounds-open_cells-end-2 c = sym (length-take-le _ _ c.requires.1)

pub slice_bounds-open_cells-end-4 : goal.slice_bounds-open_cells-end-4
slice_bounds-open_cells-end-4 c = sym (length-take-le _ _ c.requires.2)

pub open_cells-opened-requires : goal.open_cells-opened-requires
open_cells-opened-requires c = c.requires.0

pub returns : goal.returns
returns c =
    let n = c.args.n in
    let k = c.args.k in
    let m = c.args.registers.now in
    let ps = c.args.places.now in
    let p = c.open_cells-opened in
    record {
      opened = λ g b. ap₂ stacks_of (low_written n p.new.registers m (p.auto.registers ∙ length-take-le n m c.requires.1)) (low_written k p.new.places ps (p.auto.places ∙ length-take-le k ps c.requires.2)) ∙ ap (λ x. x.stacks) (p.ensures g b);
      long = long_written n p.new.registers m p.auto.registers c.requires.1;
      long_places = long_written k p.new.places ps p.auto.places c.requires.2;
    }
