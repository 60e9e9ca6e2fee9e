use Rattle.std.proofs.Common.{◌≡◌, sym, ◌∙◌, arith}
use Rattle.analysis.specs.Spreading.{spreading_skip, spreading_next, spreading_edges, spreading_sets}
use Rattle.analysis_whole.proofs.spreading.spread.Goals.{then-has, else-has}
use Rattle.analysis_whole.proofs.spreading.spread.Goals as goal

pub loop-k-preserved : goal.loop-k-preserved
loop-k-preserved c =
    let iv = c.loop-k.invariant in
    elim c.if-has.branch [
      | then-has w ↦
          let e = w.spread_by.ensures.edges in
          let s = w.spread_by.ensures.sets in
          rw (w.edges-is, w.sets-is) (e.size ∙ iv.0, s.size ∙ iv.1, λ a b. spreading_next _ _ _ _ _ (iv.2 a b) _ _ e s)
      | else-has w ↦ rw (w.edges-is, w.sets-is) (iv.0, iv.1, λ a b. spreading_skip _ _ _ _ _ (iv.2 a b) (sym c.has.ensures ∙ w.if-has.false))
    ]

pub returns : goal.returns
returns c =
    let e : c.loop-k.k ≡ c.args.n = omega arith in
    record {
      width = c.loop-k.invariant.0 ∙ sym c.requires.0;
      size = c.loop-k.invariant.1 ∙ sym c.requires.1;
      edges = λ a b. spreading_edges _ _ _ _ (rw e at (c.loop-k.invariant.2 a b));
      sets = λ a b. spreading_sets _ _ _ _ (rw e at (c.loop-k.invariant.2 a b));
    }
