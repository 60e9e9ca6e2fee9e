use Rattle.std.proofs.Common.{◌≡◌, refl, sym, ap, ◌∙◌, arith}
use Rattle.meaning.specs.Sets.{singleton}
use Rattle.analysis.specs.Follows.{filled_none, filled_then, filled_join, rest_start, rest_step, base_fine, base_more, base_end, up_start, up_step, edge_fine, edge_more, edge_end}
use Rattle.analysis_whole.proofs.follow.Quiet.{quiet_here, quiet_next}
use Rattle.analysis_whole.proofs.follow.behind_by.Goals as goal

pub loop-i-init : goal.loop-i-init
loop-i-init c =
    let row = c.requires.0 in
    rw c.size_of-i.ensures.0 (
      omega arith,
      refl,
      refl,
      rest_start _ _ row.image _ row.listed,
      up_start _ row.image _ row.listed _,
      tt,
      λ count image lt. record { base = filled_none _ (λ u. base_end _ _ image _ lt u _); edge = filled_none _ (λ b. edge_end _ image _ lt b _) },
    )

pub loop-i-preserved-then-eq : goal.loop-i-preserved-then-eq
loop-i-preserved-then-eq c =
    let row = c.requires.0 in
    let iv = c.loop-i.invariant in
    let more = c.loop-i-test.true in
    let one = c.of_nonterminal-left.ensures ∙ ap singleton c.left_of.ensures in
    let e = c.symbol_of-s.ensures in
    let here = quiet_here _ _ c.loop-i.quiet _ _ _ _ _ iv.5 (sym c.eq.ensures ∙ c.if-eq.true) in (
      omega (arith, iv.0),
      iv.1,
      iv.2,
      rest_step _ _ row.image _ row.listed _ more iv.0 _ _ iv.3 (rw e at here.turned),
      up_step _ row.image _ row.listed _ more iv.0 _ _ _ iv.4 (rw e at here.handed),
      iv.5,
      λ count image lt.
          record {
            base = filled_then _ _ _ (iv.6 count image lt).base (filled_join _ _ _ _ (rw e at here.there) (base_fine _ _ image _ lt _ more iv.0 _ iv.3)) (λ u sub b g. base_more _ _ image _ lt _ more iv.0 _ iv.3 u _ _ sub b g);
            edge = filled_then _ _ _ (iv.6 count image lt).edge (filled_join _ _ _ _ (rw e at here.edged) (edge_fine _ image _ lt _ more iv.0 _ one _ iv.4)) (λ b sub f g. edge_more _ image _ lt _ more iv.0 _ one _ iv.4 b _ _ sub f g);
          },
    )

pub loop-i-preserved : goal.loop-i-preserved
loop-i-preserved c =
    let row = c.requires.0 in
    let iv = c.loop-i.invariant in
    let more = c.loop-i-test.true in
    let one = c.of_nonterminal-left.ensures ∙ ap singleton c.left_of.ensures in
    let e = c.symbol_of-s.ensures in
    let marked = c.mark.ensures.table in
    let edged = c.mark.ensures.edges in (
      omega (arith, iv.0),
      marked.size ∙ iv.1,
      edged.size ∙ iv.2,
      rest_step _ _ row.image _ row.listed _ more iv.0 _ _ iv.3 (rw e at c.begin_with-next.ensures),
      up_step _ row.image _ row.listed _ more iv.0 _ _ _ iv.4 (rw e at c.onward-on.ensures),
      quiet_next _ _ _ _ _ _ _ _ _ _ _ _ marked edged c.begin_with-next.ensures c.onward-on.ensures c.still-quiet.ensures,
      λ count image lt.
          record {
            base = filled_then _ _ _ (iv.6 count image lt).base (filled_join _ _ _ _ (rw e at marked) (base_fine _ _ image _ lt _ more iv.0 _ iv.3)) (λ u sub b g. base_more _ _ image _ lt _ more iv.0 _ iv.3 u _ _ sub b g);
            edge = filled_then _ _ _ (iv.6 count image lt).edge (filled_join _ _ _ _ (rw e at edged) (edge_fine _ image _ lt _ more iv.0 _ one _ iv.4)) (λ b sub f g. edge_more _ image _ lt _ more iv.0 _ one _ iv.4 b _ _ sub f g);
          },
    )

pub returns : goal.returns
returns c =
    let e : c.loop-i.i ≡ 0 = omega arith in
    λ count image lt. rw e at (c.loop-i.invariant.6 count image lt)
