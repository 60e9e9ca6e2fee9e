use Rattle.judge_sheet.proofs.Answers as A
use Rattle.judge_sheet.proofs.judge_sheet.Goals as goal

pub check_node-root-requires : goal.check_node-root-requires
check_node-root-requires c = A.root_ready c.requires

pub judge_root-requires : goal.judge_root-requires
judge_root-requires c = A.result_small c.requires

pub returns : goal.returns
returns c = λ x. c.judge_root.ensures _ _ _ _ _ _ x c.check_node-root.ensures
