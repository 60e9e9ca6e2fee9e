use mathlib.Core.Path.{ap}
use Rattle.records.specs.Records.{state_is}
use Rattle.host_numbers.specs.Lent.{brought_by}
use Rattle.host_numbers.proofs.brought.Goals as goal

pub returns : goal.returns
returns c =
    brought_by c.args.numbers.now (ap state_is c.running-counted.ensures) c.with_kind-placed.ensures c.with_status-state.ensures
