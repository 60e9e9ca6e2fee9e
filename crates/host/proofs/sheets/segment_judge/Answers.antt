use Rattle.host_answers.specs.judged.JudgeLent.{judged_lent}
use Rattle.host.proofs.sheets.segment_judge.Goals as goal

pub returns : goal.returns
returns c =
    judged_lent c.args.table.now c.args.kinds.now c.args.values.now c.args.sheet.now c.judge-judged.result c.judge-judged.ensures _ _ _ c.lend.ensures
