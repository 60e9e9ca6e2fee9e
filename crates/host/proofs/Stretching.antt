-- The numbers of a stretch by the cases of its span.
use Prim.Native.Nat.{ℕ, ◌-◌}
use mathlib.Core.Path.{◌≡◌, refl, sym, ◌∙◌, subst}
use mathlib.Core.List.{List}
use Rattle.checker_span.specs.Spans.{Span, Within, Nowhere}
use Rattle.checker.specs.Verdicts.{span_of}
use Rattle.checker.proofs.Cases.{stretch_within, stretch_nowhere}
use Rattle.host.specs.Passed.{Spanned, Stretched}

module _ (t : List ℕ) (p : ℕ) (r : Span) (k : r ≡ span_of t p) where
  pub stretched_within : (from to : ℕ) → r ≡ Within from to → Stretched t p from (to - from) 0 0
  stretched_within from to e = record { span = subst (Spanned from (to - from) 0 0) (sym e ∙ k) (refl, refl, refl, refl); part = stretch_within t p r from to e k 0 0 }

  pub stretched_nowhere : (n o : ℕ) → r ≡ Nowhere n o → Stretched t p 0 0 n o
  stretched_nowhere n o e = record { span = subst (Spanned 0 0 n o) (sym e ∙ k) (refl, refl, refl, refl); part = stretch_nowhere t p r n o e k 0 0 }
