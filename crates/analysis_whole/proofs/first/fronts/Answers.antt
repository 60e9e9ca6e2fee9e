use Rattle.analysis.specs.Fronts.{gathers_short, first_settled, lead_settled}
use Rattle.analysis_whole.proofs.first.fronts.Goals as goal

pub edges_of-requires : goal.edges_of-requires
edges_of-requires c = (c.requires.0, c.requires.2, c.requires.3)

pub spread-requires : goal.spread-requires
spread-requires c =
    (c.edges_of.ensures.edges.size, c.edges_of.ensures.sets.size, c.requires.1)

pub returns : goal.returns
returns c =
    let ge = c.edges_of.ensures.edges in
    let gs = c.edges_of.ensures.sets in record { led = λ b. lead_settled _ _ _ _ ge _ (c.spread.ensures.edges (gathers_short _ _ _ _ _ b ge) (gathers_short _ _ _ _ _ b gs)); first = λ b. first_settled _ _ _ _ ge _ _ gs (c.spread.ensures.sets (gathers_short _ _ _ _ _ b ge) (gathers_short _ _ _ _ _ b gs)) }
