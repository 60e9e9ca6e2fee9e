use native.Mathlib.Omega.{arith}
use Rattle.table_production.proofs.Producing.{part_in, taken_body}
use Rattle.table_production.proofs.judge_body.Goals as goal

pub returns-clause-read : goal.returns-clause-read
returns-clause-read c =
    let counted = c.place_counts.ensures in
    let t = c.args.table.now in
    let part = part_in t c.args.at c.wide-width.result c.wide-width.ensures.0 in
    taken_body t c.args.at _ _ _ _ _ _ _ c.wide-width.ensures.0 part (omega arith) counted.inherits counted.synthesizes c.requires.1 _ _ _ _ _ _ c.note_of-note.ensures c.read_items.ensures.read
