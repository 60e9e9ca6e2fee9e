use Rattle.window.specs.Answers.{answer_is}
use Rattle.host_answers.specs.windows.Windows.{window_passed_on}
use Rattle.host.proofs.windows.segment_window_open.Goals as goal

pub returns : goal.returns
returns c =
    let w = c.window_open-answer in
    window_passed_on (answer_is w.result) _ _ w.ensures _ _ _ _ c.hand_out.ensures
