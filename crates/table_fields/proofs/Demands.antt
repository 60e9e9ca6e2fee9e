-- How an early return meets a list of demands: the demands before it hold, its own fails.
use Prim.Native.Nat.{ℕ, ◌≤◌, ◌<◌}
use mathlib.Core.Path.{◌≡◌, refl, sym, ◌∙◌}
use mathlib.Core.Bool.{Bool, true, false, not}
use borrow.Author.Tests.{le-leb, lt-leb, lt-ltb, le-ltb, eq-eqb, ne_eqb, not-true, not-false}
use Rattle.table_fields.specs.Demand.{lacks, holds, equal, differs, at_most, below, if_equal, if_below}

module _ (b : Bool) (n r : ℕ) where
  pub holds_met : {z : ℕ} → b ≡ true → z ≡ r → z ≡ holds b n r
  unfolding holds
  holds_met p q = rw p q

  pub holds_not : b ≡ false → n ≡ holds b n r
  unfolding holds
  holds_not p = rw p refl

module _ (a b n r : ℕ) where
  pub equal_met : {z : ℕ} → a ≡ b → z ≡ r → z ≡ equal a b n r
  unfolding equal
  equal_met h q = rw (eq-eqb a b h) q

  pub equal_not : (a ≡ b → ⊥) → n ≡ equal a b n r
  unfolding equal
  equal_not h = rw (ne_eqb a b h) refl

  pub differs_met : {z : ℕ} → (a ≡ b → ⊥) → z ≡ r → z ≡ differs a b n r
  unfolding differs
  differs_met h q = rw (ne_eqb a b h) q

  pub differs_not : a ≡ b → n ≡ differs a b n r
  unfolding differs
  differs_not h = rw (eq-eqb a b h) refl

  pub at_most_met : {z : ℕ} → a ≤ b → z ≡ r → z ≡ at_most a b n r
  unfolding at_most
  at_most_met h q = rw (le-leb a b h) q

  pub at_most_not : b < a → n ≡ at_most a b n r
  unfolding at_most
  at_most_not h = rw (lt-leb a b h) refl

  pub below_met : {z : ℕ} → a < b → z ≡ r → z ≡ below a b n r
  unfolding below
  below_met h q = rw (lt-ltb a b h) q

  pub below_not : b ≤ a → n ≡ below a b n r
  unfolding below
  below_not h = rw (le-ltb a b h) refl

-- a choice of two
module _ {A : Type 0} (a b : ℕ) (x y : A) where
  pub equal_yes : {z : A} → a ≡ b → z ≡ x → z ≡ if_equal a b x y
  unfolding if_equal
  equal_yes h q = rw (eq-eqb a b h) q

  pub equal_no : {z : A} → (a ≡ b → ⊥) → z ≡ y → z ≡ if_equal a b x y
  unfolding if_equal
  equal_no h q = rw (ne_eqb a b h) q

  pub below_yes : {z : A} → a < b → z ≡ x → z ≡ if_below a b x y
  unfolding if_below
  below_yes h q = rw (lt-ltb a b h) q

  pub below_no : {z : A} → b ≤ a → z ≡ y → z ≡ if_below a b x y
  unfolding if_below
  below_no h q = rw (le-ltb a b h) q

module _ (b : Bool) (n r : ℕ) where
  pub lacks_met : {z : ℕ} → b ≡ false → z ≡ r → z ≡ lacks b n r
  unfolding lacks
  lacks_met p q = rw p q

  pub lacks_not : b ≡ true → n ≡ lacks b n r
  unfolding lacks
  lacks_not p = rw p refl

-- the same by the answer x of a call that was tested as `!x`, or as `x`
module _ (b : Bool) (n r : ℕ) (x : Bool) (e : x ≡ b) where
  pub said_met : {z : ℕ} → not x ≡ false → z ≡ r → z ≡ holds b n r
  said_met h q = holds_met b n r (sym e ∙ not-false x h) q

  pub said_not : not x ≡ true → n ≡ holds b n r
  said_not h = holds_not b n r (sym e ∙ not-true x h)

  pub said_lacks : {z : ℕ} → x ≡ false → z ≡ r → z ≡ lacks b n r
  said_lacks h q = lacks_met b n r (sym e ∙ h) q

  pub said_has : x ≡ true → n ≡ lacks b n r
  said_has h = lacks_not b n r (sym e ∙ h)
