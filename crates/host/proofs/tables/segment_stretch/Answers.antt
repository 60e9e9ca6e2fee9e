use mathlib.Core.Path.{ap}
use Rattle.checker_span.specs.Spans.{span_is}
use Rattle.host.proofs.Stretching.{stretched_nowhere}
use Rattle.host.proofs.tables.segment_stretch.Goals as goal

pub returns-in-Err : goal.returns-in-Err
returns-in-Err c = rw c.number.ensures (stretched_nowhere _ _ _ c.span_of.ensures.said _ _ (ap span_is c.in-Err.is))
