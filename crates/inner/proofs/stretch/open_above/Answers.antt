use Rattle.inner.specs.stretch.Lending.{open_is}
use Rattle.inner.proofs.stretch.open_above.Goals as goal

pub returns : goal.returns
returns c =
    let a = c.args in
    let r = c.smaller-n in
    let p = c.smaller-k in
    let rb = c.beginning-a in
    let pb = c.beginning-b in
    let f = c.open_cells-handed in
    λ g s. open_is g a.outer a.registers.now a.places.now r.result p.result rb.result pb.result r.ensures p.ensures rb.ensures pb.ensures f.result f.new.registers f.new.places (f.ensures g s) c.opened.result c.opened.ensures
