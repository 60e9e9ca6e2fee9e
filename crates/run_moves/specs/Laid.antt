-- A stack in cells of which all are lent: beside the laws of `run_registers`, what is read from the top, and a pop.
use Rattle.std.specs.Prelude.{ℕ, ◌-◌, ◌≤◌, ◌≡◌, List, ◌∷◌, length, get_or, set, replicate}
use Rattle.std.proofs.Common.{arith, sym, ap, ◌∙◌}
use Rattle.std.proofs.lemmas.List.{length-replicate}
use Rattle.run_registers.specs.Stack.{stack_read, lay_pop}
use Rattle.run_registers.specs.Laid.{Laid, laid_length, laid_inside, laid_stack}

abbrev pub LaidIn : {A : Type 0} → A → ℕ → List A → ℕ → List A → Type 0
LaidIn clear n mem h xs = Laid n clear (replicate n clear) mem h xs

module _ {A : Type 0} {clear : A} {n : ℕ} {mem : List A} {h : ℕ} {xs : List A} (l : LaidIn clear n mem h xs) where
  pub laid_size : length mem ≡ n
  laid_size = laid_length l ∙ length-replicate n clear

  -- place k, counted from 1 at the top
  pub laid_read : (k : ℕ) → 1 ≤ k → k ≤ h → get_or mem (h - k) clear ≡ get_or xs (k - 1) clear
  laid_read k a b = stack_read clear h mem (laid_inside l) k clear a b ∙ ap (λ ys. get_or ys (k - 1) clear) (laid_stack l)

pub laid_pop : {A : Type 0} {clear : A} {n : ℕ} {mem : List A} {h : ℕ} (x : A) (xs : List A) → LaidIn clear n mem h (x ∷ xs) → LaidIn clear n (set mem (h - 1) clear) (h - 1) xs
laid_pop {A} {clear} {n} {mem} {h} x xs l =
    let e = l.height in
    let f = l.room in
    let z : h - 1 ≡ length xs = omega arith in
    record {
      memory = rw (z, l.memory) (sym (lay_pop n clear x xs (replicate n clear) (omega arith)));
      height = sym z;
      room = omega arith;
      long = l.long;
    }
