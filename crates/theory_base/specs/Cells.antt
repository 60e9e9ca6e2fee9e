-- A test of every cell of a list, one after the other: what is left of it after i cells.
use Rattle.std.specs.Prelude.{ℕ, ◌+◌, ◌<◌, ◌≤◌, ◌≡◌, refl, Bool, true, false, ◌&&◌, List, ℤ, pos, length, get_or, drop}
use Rattle.std.proofs.Common.{add-one, sym, ap, ◌∙◌, drop_of_length-le, drop-cons, SFits, to_z, of_z, to_z-of_z}
use Rattle.std.specs.Int.{w64}
use Rattle.meaning.specs.Base.{all}

module _ {A : Type 0} (f : A → Bool) (xs : List A) (i : ℕ) where
  pub all_turn : (d : A) → i < length xs → all f (drop i xs) ≡ f (get_or xs i d) && all f (drop (i + 1) xs)
  all_turn d l = rw (add-one i, drop-cons xs i d l) refl

  pub all_end : length xs ≤ i → all f (drop i xs) ≡ true
  all_end l = rw (drop_of_length-le xs {i = i} l) refl

  -- no cell is left
  pub all_passed : length xs ≤ i → all f xs ≡ all f (drop i xs) → true ≡ all f xs
  all_passed l q = sym (q ∙ all_end l)

-- a signed cell is tested by its bits, with the answer b
module _ (f : ℤ → Bool) (xs : List ℤ) (i : ℕ) {b : Bool} (l : i < length xs) (s : SFits w64 (get_or xs i (pos 0))) (e : b ≡ f (to_z w64 (of_z w64 (get_or xs i (pos 0))))) (q : all f xs ≡ all f (drop i xs)) where
  by_answer : all f xs ≡ b && all f (drop (i + 1) xs)
  by_answer = q ∙ (all_turn f xs i (pos 0) l ∙ ap (λ (t : Bool). t && all f (drop (i + 1) xs)) (sym (e ∙ ap f (to_z-of_z s))))

  pub cell_passes : b ≡ true → all f xs ≡ all f (drop (i + 1) xs)
  cell_passes h = rw h at by_answer

  pub cell_fails : b ≡ false → false ≡ all f xs
  cell_fails h = sym (rw h at by_answer)
