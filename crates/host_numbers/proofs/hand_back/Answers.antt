use Rattle.engine.specs.Records.{record_is}
use Rattle.host_numbers.specs.Lent.{numbers_by}
use Rattle.host_numbers.proofs.hand_back.Goals as goal

pub returns : goal.returns
returns c = numbers_by (record_is c.args.«record») c.status_out.ensures c.kind_out.ensures c.register_base.ensures c.place_base.ensures
