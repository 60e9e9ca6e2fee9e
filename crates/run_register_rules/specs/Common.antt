-- The functions that rules have most often: a constant (0), a copy (1), a sum (2), and a sum with a constant (7).
use Rattle.std.specs.Prelude.{ℕ, ◌≤◌, ◌<◌, ◌≡◌, Bool, true, ◌||◌, ltb, eqb}
use Rattle.std.proofs.Common.{sym, ◌∙◌, eqb-true, lt-ltb, le-ltb}
use Rattle.theory_program.specs.Parts.{rule_function}

-- by the rule's first word
abbrev pub common : ℕ → Bool
common w = ltb (rule_function w) 3 || eqb (rule_function w) 7

pub common_below : (w : ℕ) → rule_function w < 3 → common w ≡ true
common_below w l = rw (lt-ltb (rule_function w) 3 l)

pub common_above : (w : ℕ) → 3 ≤ rule_function w → common w ≡ eqb (rule_function w) 7
common_above w l = rw (le-ltb (rule_function w) 3 l)

-- above 2 it is the sum with a constant
pub common_last : (w : ℕ) → common w ≡ true → 3 ≤ rule_function w → rule_function w ≡ 7
common_last w t l = eqb-true (rule_function w) 7 (sym (common_above w l) ∙ t)
