use Rattle.std.proofs.Common.{◌<◌, length, arith}
use Rattle.std.proofs.lemmas.Grind.{common_steps}
use Rattle.table_counts.proofs.Steps.{part_body, header_right}
use Rattle.table_counts.proofs.judge_header.Goals as goal

pub returns : goal.returns
returns c =
    let some : 0 < length c.args.table.now = grind (arith, common_steps) in
    header_right _ some _ _ _ c.in-Some.ensures.whole (omega arith) (part_body c.args.table.now 0 c.in-Some.size) c.header_fault.ensures
