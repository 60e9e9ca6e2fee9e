-- What std's iterators test of all cells.
use Rattle.std.proofs.Common.{ℕ, ◌≡◌, Bool, ◌&&◌, List, [], ◌∷◌, eqb, refl, sym, ap, ◌∙◌, bit_or}
use Rattle.std.specs.List.{list_all, fold}
use Rattle.std.proofs.Math.Bool.{and-true, and_assoc}
use Rattle.std.proofs.lemmas.List.Recursion.{same_from_clauses}
use Rattle.meaning.specs.Base.{all}
use Rattle.run_fit.specs.cells.Gathering.{or_none}

pub list_all_is : {A : Type 0} (f : A → Bool) (xs : List A) → list_all f xs ≡ all f xs
list_all_is f = same_from_clauses (list_all f) (all f) (λ x b. f x && b) refl (λ _ _. refl) (λ _ _. refl)

-- the bits of all cells together with some
gathered_with : (b : ℕ) (xs : List ℕ) → eqb (fold bit_or b xs) 0 ≡ eqb b 0 && all (λ p. eqb p 0) xs
gathered_with b [] = sym (and-true (eqb b 0))
gathered_with b (x ∷ xs) = gathered_with (bit_or b x) xs ∙ (ap (λ (t : Bool). t && all (λ p. eqb p 0) xs) (or_none b x) ∙ and_assoc (eqb b 0) (eqb x 0) (all (λ p. eqb p 0) xs))

pub gathered_none : (xs : List ℕ) → eqb (fold bit_or 0 xs) 0 ≡ all (λ p. eqb p 0) xs
gathered_none xs = gathered_with 0 xs
