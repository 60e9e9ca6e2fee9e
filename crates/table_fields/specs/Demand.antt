-- Demands on a field, each with the refusal number that stands for it: the first that fails gives the number, 0 if all hold.
-- Each takes its operands, the number n, and the demands that follow.
use Rattle.std.specs.Prelude.{ℕ, Bool, cond, leb, ltb, eqb}

-- b is true
unfoldable pub holds : Bool → ℕ → ℕ → ℕ
holds b n rest = cond b rest n

-- b is false
unfoldable pub lacks : Bool → ℕ → ℕ → ℕ
lacks b n rest = cond b n rest

-- a equals b
unfoldable pub equal : ℕ → ℕ → ℕ → ℕ → ℕ
equal a b n rest = cond (eqb a b) rest n

-- a does not equal b
unfoldable pub differs : ℕ → ℕ → ℕ → ℕ → ℕ
differs a b n rest = cond (eqb a b) n rest

-- a is at most b
unfoldable pub at_most : ℕ → ℕ → ℕ → ℕ → ℕ
at_most a b n rest = cond (leb a b) rest n

-- a is below b
unfoldable pub below : ℕ → ℕ → ℕ → ℕ → ℕ
below a b n rest = cond (ltb a b) rest n

-- x lies from low to high
abbrev pub between : ℕ → ℕ → ℕ → ℕ → ℕ → ℕ
between low high x n rest = at_most low x n (at_most x high n rest)

-- choices by a test on two numbers
module _ {A : Type 0} where
  unfoldable pub if_equal : ℕ → ℕ → A → A → A
  if_equal a b x y = cond (eqb a b) x y

  unfoldable pub if_below : ℕ → ℕ → A → A → A
  if_below a b x y = cond (ltb a b) x y
