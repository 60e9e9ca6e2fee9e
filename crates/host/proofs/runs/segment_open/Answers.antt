use Rattle.host_numbers.specs.Lent.{passed_on}
use Rattle.host.proofs.runs.segment_open.Goals as goal

pub returns : goal.returns
returns c = passed_on c.open-called.result _ _ _ _ c.open-called.ensures _ _ _ c.pass_on.ensures
