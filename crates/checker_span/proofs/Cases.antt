-- A span by its cases.
use Prim.Native.Nat.{ℕ, suc, ◌≤◌, ◌<◌}
use mathlib.Core.Path.{◌≡◌, refl, ap₂}
use mathlib.Core.List.{List}
use borrow.Author.Tests.{lt-ltb, le-ltb}
use Rattle.table_reader.specs.Fields.{nth_production}
use Rattle.checker_span.specs.Spans.{Within, Nowhere, span_in}

module _ (t : List ℕ) (n p : ℕ) where
  pub span_missing : n ≤ p → Nowhere 14 0 ≡ span_in t n p
  unfolding span_in
  span_missing l = rw (span_in, le-ltb p n l) refl

  pub span_found : p < n → (from to : ℕ) → from ≡ nth_production t 0 p → to ≡ nth_production t 0 (suc p) → Within from to ≡ span_in t n p
  unfolding span_in
  span_found l from to d e = rw (span_in, lt-ltb p n l) (ap₂ Within d e)
