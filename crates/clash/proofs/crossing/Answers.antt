use Rattle.clash.proofs.Laws.{crossing_met, crossing_none}
use Rattle.clash.proofs.crossing.Goals as goal

pub returns-then-meets : goal.returns-then-meets
returns-then-meets c = crossing_met _ _ _ c.requires _ c.meets.ensures c.if-meets.true _ c.of_nonterminal.ensures

pub returns-else-meets : goal.returns-else-meets
returns-else-meets c = crossing_none _ _ _ c.requires _ c.meets.ensures c.if-meets.false
