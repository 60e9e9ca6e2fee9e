-- What the host's calls pass on.
use Rattle.std.specs.Prelude.{ℕ, ◌-◌, ◌≡◌, refl, List, Result, Ok, Err, take, drop}
use Rattle.std.proofs.Common.{sym, ap, ◌∙◌, subst}
use Rattle.meaning.specs.Judgement.{Verdict, accepted, rejected}
use Rattle.meaning.specs.PublicCalls.{stretch_of}
use Rattle.refusals.specs.Numbers.{fault_number}
use Rattle.refusals.specs.declared.TableRefusal.{TableRefusal}
use Rattle.checker_span.specs.Spans.{Span, Within, Nowhere, stretch_is}
use Rattle.checker.specs.Verdicts.{verdict_is, span_of}

-- a verdict as two numbers, both 0 for an accepted table
abbrev pub checked : ℕ → ℕ → Verdict → Type 0
checked number offset accepted = (number ≡ 0) × (offset ≡ 0)
checked number offset (rejected n o) = (number ≡ n) × (offset ≡ o)

module _ (r : Result (Unit {0}) TableRefusal) (v : Verdict) (e : verdict_is r ≡ v) where
  pub accepts : (u : Unit {0}) → r ≡ Ok u → checked 0 0 v
  accepts u q = subst (checked 0 0) (sym (ap verdict_is q) ∙ e) (refl, refl)

  pub refuses : (f : TableRefusal) → r ≡ Err f → checked (fault_number f.fault) f.offset v
  refuses f q = subst (checked (fault_number f.fault) f.offset) (sym (ap verdict_is q) ∙ e) (refl, refl)

-- a span as start, length, number and offset: the last two 0 where there is a stretch, the first two on a refusal
abbrev pub Spanned : ℕ → ℕ → ℕ → ℕ → Span → Type 0
Spanned start long number offset (Within from to) = (start ≡ from) × (long ≡ to - from) × (number ≡ 0) × (offset ≡ 0)
Spanned start long number offset (Nowhere n o) = (start ≡ 0) × (long ≡ 0) × (number ≡ n) × (offset ≡ o)

-- the numbers of production p's stretch in table t; the part that they cut out is 01's
pub record Stretched (t : List ℕ) (p start long n o : ℕ) : Type 0 where
  pub span : Spanned start long n o (span_of t p)
  pub part : stretch_is (take long (drop start t)) n o ≡ stretch_of t p 0 0
