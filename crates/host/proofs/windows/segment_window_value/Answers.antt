use mathlib.Core.Path.{ap, ◌∙◌}
use mir.Facts.{to_z-of_z}
use Rattle.meaning_window.specs.Window.{brings_answer}
use Rattle.window.specs.Answers.{answer_is}
use Rattle.host_answers.specs.windows.Windows.{finished_as, window_passed_on}
use Rattle.host.proofs.windows.segment_window_value.Goals as goal

pub returns : goal.returns
returns c =
    let w = c.window_brings-answer in
    let e = c.finished-answer.ensures ∙ ap (λ v. finished_as c.args.finish v c.args.count) (to_z-of_z c.ranges.value) in
    window_passed_on (answer_is w.result) _ _ (w.ensures ∙ ap (λ a. brings_answer a c.args.buffer.now) e) _ _ _ _ c.hand_out.ensures
