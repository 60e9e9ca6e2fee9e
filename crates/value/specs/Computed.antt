-- The nine functions by their numbers in 01.
use Rattle.std.specs.Prelude.{ℕ, cond, List, [], ◌∷◌, ℤ, pos, ◌+ℤ◌, ◌-ℤ◌, ◌*ℤ◌, int_le, slice_index_or}
use Rattle.meaning.specs.Value.{quotient}

abbrev pub larger : ℤ → ℤ → ℤ
larger a b = cond (int_le a b) b a

abbrev pub smaller : ℤ → ℤ → ℤ
smaller a b = cond (int_le a b) a b

-- the exact result of each function on its operands and constant, in 01's order
abbrev pub results : ℤ → ℤ → List ℤ
results a b = a ∷ a ∷ (a +ℤ b) ∷ (a -ℤ b) ∷ (a *ℤ b) ∷ larger a b ∷ smaller a b ∷ (a +ℤ b) ∷ quotient a b ∷ []

-- 0 where 01 has no such function
abbrev pub computed : ℕ → ℤ → ℤ → ℤ
computed f a b = slice_index_or (results a b) f (pos 0)
