-- What 02 (f) says of quotients, as statements: each is a type, and its proof, in theory_base's Quotients, is a value of it.
use Rattle.std.specs.Prelude.{ℕ, ◌<◌, ◌≡◌, ◌↔◌, T, ℤ, pos}
use Rattle.meaning.specs.Grammar.{quot}
use Rattle.meaning.specs.Rules.{Constant}
use Rattle.meaning.specs.Value.{in_range, nearest, quotient, apply}

-- the computed quotient is the nearest whole number, halves upward, and nothing else is
abbrev pub NearestExactly : Type 0
NearestExactly = (a : ℤ) (c : ℕ) (q : ℤ) → 0 < c → T (nearest a c q) ↔ (q ≡ quotient a (pos c))

-- 02 (f): "A quotient never leaves the range": of a value, function 8 gives a value, so no 23 comes from it
abbrev pub QuotientInRange : Type 1
QuotientInRange = (O : Type 0) (v : O → ℤ) (a : O) (c : ℤ) → Constant (quot a c) → T (in_range (v a)) → T (in_range (apply v (quot a c)))
