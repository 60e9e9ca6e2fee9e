use Rattle.host_answers.specs.ranked.Suggested.{passed_on}
use Rattle.host.proofs.ranking.segment_rank.Goals as goal

pub returns : goal.returns
returns c =
    let k = c.rank-answer in
    passed_on k.result k.new.list k.new.registers k.new.places k.new.program _ k.ensures _ _ _ _ _ c.lend.ensures
