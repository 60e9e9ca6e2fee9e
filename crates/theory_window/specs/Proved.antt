-- The promises of 02 (k), proved: for each statement of meaning's WindowStatements, in its order, the theorem. Nothing is assumed.
use Rattle.meaning_window.specs.Window.{well_kept}
use Rattle.meaning_window.specs.WindowStatements.{ScanAlways, ReachedExactly, KeptAlways, TurnedBackExactly, Untouched, PastUntouched, KeptBeside}
use Rattle.theory_base.specs.Members.{T→true, true→T}
use Rattle.theory_window.specs.FormByParts.{answer_kept}
use Rattle.theory_window.specs.Reached.{kept_reached, reached_kept}
use Rattle.theory_window.specs.ScanAlways as Always
use Rattle.theory_window.specs.Promises as Promises

pub scan_always : ScanAlways
scan_always = Always.scan_always

pub reached_exactly : ReachedExactly
reached_exactly b = (λ t. kept_reached b (T→true (well_kept b) t), λ r. true→T (well_kept b) (reached_kept b r))

pub kept_always : KeptAlways
kept_always = Always.kept_always

pub turned_back_exactly : TurnedBackExactly
turned_back_exactly = Promises.turned_back_exactly

pub untouched : Untouched
untouched = Promises.untouched

pub past_untouched : PastUntouched
past_untouched = Promises.past_untouched

pub kept_beside : KeptBeside
kept_beside b t = answer_kept b (T→true (well_kept b) t)
