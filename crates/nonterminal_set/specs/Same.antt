-- What it says of two words that a test finds them equal, or not.
use Rattle.std.specs.Prelude.{ℕ, ◌≡◌, Bool, true, false, T, eqb}
use Rattle.std.proofs.Common.{sym, ◌∙◌, eqb→eq}
use Rattle.std.proofs.Math.Dec.{eqb_refl}

pub same_words : (a b : ℕ) {r : Bool} → r ≡ eqb a b → r ≡ true → a ≡ b
same_words a b e h = eqb→eq a b (rw (sym e ∙ h) tt)

pub other_words : (a b : ℕ) {r : Bool} → r ≡ eqb a b → r ≡ false → a ≡ b → ⊥
other_words a b e h q = let t : T (eqb a b) = rw q (eqb_refl b) in rw (sym e ∙ h) at t
