-- A list of tests with their numbers: the number of the first that fails, or what comes after them where all are met.
use Prim.Native.Nat.{ℕ, zero, suc, ◌≤◌, ◌<◌}
use mathlib.Core.Path.{◌≡◌, refl, ◌∙◌}
use mathlib.Core.List.{List, [], ◌∷◌}
use Rattle.table_fields.specs.Demand.{equal, differs, at_most, below}
use Rattle.table_fields.proofs.Demands.{equal_met, equal_not, differs_met, differs_not, at_most_met, at_most_not, below_met, below_not}

-- a test of two numbers; the last number is the one that stands for it
pub data Test : Type 0 where
  is_same : ℕ → ℕ → ℕ → Test
  is_other : ℕ → ℕ → ℕ → Test
  is_at_most : ℕ → ℕ → ℕ → Test
  is_below : ℕ → ℕ → ℕ → Test

abbrev pub Met : Test → Type 0
Met (is_same a b n) = a ≡ b
Met (is_other a b n) = a ≡ b → ⊥
Met (is_at_most a b n) = a ≤ b
Met (is_below a b n) = a < b

abbrev pub Unmet : Test → Type 0
Unmet (is_same a b n) = a ≡ b → ⊥
Unmet (is_other a b n) = a ≡ b
Unmet (is_at_most a b n) = b < a
Unmet (is_below a b n) = b ≤ a

abbrev pub number : Test → ℕ
number (is_same a b n) = n
number (is_other a b n) = n
number (is_at_most a b n) = n
number (is_below a b n) = n

abbrev pub as_demand : Test → ℕ → ℕ
as_demand (is_same a b n) rest = equal a b n rest
as_demand (is_other a b n) rest = differs a b n rest
as_demand (is_at_most a b n) rest = at_most a b n rest
as_demand (is_below a b n) rest = below a b n rest

unfoldable pub lowest_of : List Test → ℕ → ℕ
lowest_of [] rest = rest
lowest_of (t ∷ ts) rest = as_demand t (lowest_of ts rest)

-- all are met
abbrev pub Passed : List Test → Type 0
Passed [] = Unit {0}
Passed (t ∷ ts) = Met t × Passed ts

-- those before the k-th are met, and it is not
abbrev pub FailsAt : ℕ → List Test → Type 0
FailsAt k [] = ⊥
FailsAt zero (t ∷ ts) = Unmet t
FailsAt (suc k) (t ∷ ts) = Met t × FailsAt k ts

abbrev pub number_at : ℕ → List Test → ℕ
number_at k [] = 0
number_at zero (t ∷ ts) = number t
number_at (suc k) (t ∷ ts) = number_at k ts

met : (t : Test) (r : ℕ) {z : ℕ} → Met t → z ≡ r → z ≡ as_demand t r
met (is_same a b n) r h q = equal_met a b n r h q
met (is_other a b n) r h q = differs_met a b n r h q
met (is_at_most a b n) r h q = at_most_met a b n r h q
met (is_below a b n) r h q = below_met a b n r h q

not_met : (t : Test) (r : ℕ) → Unmet t → number t ≡ as_demand t r
not_met (is_same a b n) r h = equal_not a b n r h
not_met (is_other a b n) r h = differs_not a b n r h
not_met (is_at_most a b n) r h = at_most_not a b n r h
not_met (is_below a b n) r h = below_not a b n r h

all_met : (ts : List Test) (r : ℕ) {z : ℕ} → Passed ts → z ≡ r → z ≡ lowest_of ts r
unfolding lowest_of
all_met [] r p q = q
all_met (t ∷ ts) r p q = met t (lowest_of ts r) p.0 (all_met ts r p.1 q)

one_fails : (k : ℕ) (ts : List Test) (r : ℕ) → FailsAt k ts → number_at k ts ≡ lowest_of ts r
unfolding lowest_of
one_fails k [] r p = absurd p
one_fails zero (t ∷ ts) r p = not_met t (lowest_of ts r) p
one_fails (suc k) (t ∷ ts) r p = met t (lowest_of ts r) p.0 (one_fails k ts r p.1)

-- a number that is given by such a list
pub record GivenBy (ts : List Test) (r n : ℕ) : Type 0 where
  pub is : lowest_of ts r ≡ n

pub itself : (ts : List Test) (r : ℕ) → GivenBy ts r (lowest_of ts r)
itself ts r = record { is = refl }

module _ {ts : List Test} {r n : ℕ} (g : GivenBy ts r n) where
  pub fails_at : (k : ℕ) → FailsAt k ts → number_at k ts ≡ n
  fails_at k p = one_fails k ts r p ∙ g.is

  pub passed : {z : ℕ} → Passed ts → z ≡ r → z ≡ n
  passed p q = all_met ts r p q ∙ g.is
