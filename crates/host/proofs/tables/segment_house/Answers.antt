use Rattle.host_answers.specs.housed.HouseNumbers.{numbered_by}
use Rattle.host.specs.Housed.{housed_numbered}
use Rattle.host.proofs.tables.segment_house.Goals as goal

pub returns : goal.returns
returns c =
    let h = c.house in
    housed_numbered h.result c.tell.new.length c.tell.new.number c.tell.new.offset h.new.out _ h.ensures (numbered_by h.result c.tell.new.length c.tell.new.number c.tell.new.offset c.tell.ensures)
