-- 01's numbers and values for the answers of the public calls.
use Rattle.std.specs.Prelude.{ℕ, Bool, true, false, List, Result, Ok, Err, ltb, length}
use Rattle.meaning.specs.Judgement as Judgement
use Rattle.meaning.specs.Table.{State}
use Rattle.meaning.specs.Judgement.{accepted, rejected, entry_offset}
use Rattle.meaning.specs.PublicCalls.{Checked, usable, unusable, check, stretch_end}
use Rattle.refusals.specs.Numbers.{fault_number}
use Rattle.refusals.specs.declared.TableRefusal.{TableRefusal}
use Rattle.checker_span.specs.Spans.{Span, Within, Nowhere}

-- the verdict that each answer is
abbrev pub verdict_is : Result (Unit {0}) TableRefusal → Judgement.Verdict
verdict_is (Ok _) = accepted
verdict_is (Err r) = rejected (fault_number r.fault) r.offset

-- where the stretch of production p stands: from its offset to the next one's or the end; 14 where there is no such production
abbrev pub span_where : List ℕ → State → ℕ → Bool → Span
span_where t s p true = Within (entry_offset s p) (stretch_end t s p)
span_where t s p false = Nowhere 14 0

abbrev pub span_as : List ℕ → ℕ → Checked → Span
span_as t p (usable s) = span_where t s p (ltb p (length s.entries))
span_as t p (unusable number offset) = Nowhere number offset

unfoldable pub span_of : List ℕ → ℕ → Span
span_of t p = span_as t p (check t)
