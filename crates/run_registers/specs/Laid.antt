-- A stack that lies in lent memory with all above it clear, and what each change to memory makes of it. For any kind of cell and any clear value.
use Rattle.std.specs.Prelude.{ℕ, ◌+◌, ◌-◌, ◌≤◌, ◌<◌, ◌≡◌, List, ◌∷◌, ◌++◌, length, set, drop, replicate}
use Rattle.std.proofs.Common.{arith, sym, ap, ◌∙◌, length-append, length-set, length-drop}
use Rattle.std.proofs.lemmas.List.{length-replicate}
use Rattle.meaning.specs.Calls.{lay}
use Rattle.theory_answers.specs.Memory.{lay_length}
use Rattle.run_registers.specs.Stack.{stack, lay_stack, lay_write, lay_add, lay_push, lay_over}

-- the stack xs, of height h, in the first n cells of mem; base is what memory was before any stack was laid
pub record Laid {A : Type 0} (n : ℕ) (clear : A) (base mem : List A) (h : ℕ) (xs : List A) : Type 0 where
  pub memory : mem ≡ lay n clear xs base
  pub height : length xs ≡ h
  pub room : h ≤ n
  pub long : n ≤ length base

module _ {A : Type 0} {n : ℕ} {clear : A} {base mem : List A} {h : ℕ} {xs : List A} (s : Laid n clear base mem h xs) where
  pub laid_length : length mem ≡ length base
  laid_length = ap length s.memory ∙ lay_length n clear xs base (omega (arith, s.height, s.room)) s.long

  pub laid_inside : h ≤ length mem
  laid_inside = omega (arith, s.room, s.long, laid_length)

  pub laid_stack : stack h mem ≡ xs
  laid_stack = rw (s.memory, ← s.height) (lay_stack n clear xs base)

  -- a stack that is no higher in the same cells
  pub laid_over : (k : ℕ) (ys : List A) → length ys ≡ k → k ≤ h → Laid n clear base (lay h clear ys mem) k ys
  laid_over k ys e l =
      record {
        memory = rw (s.memory, ← s.height) (lay_over n clear xs ys base (omega (arith, s.height)) (omega (arith, s.height, s.room)));
        height = e;
        room = omega (arith, s.room);
        long = s.long;
      }

  -- an addition writes nothing
  pub laid_add : (k : ℕ) → h + k ≤ n → Laid n clear base mem (h + k) (replicate k clear ++ xs)
  laid_add k l =
      record {
        memory = s.memory ∙ sym (lay_add n clear xs base k (omega (arith, s.height)));
        height = length-append (replicate k clear) xs ∙ omega (arith, length-replicate k clear, s.height);
        room = l;
        long = s.long;
      }

  pub laid_push : (v : A) → h < n → Laid n clear base (set mem h v) (h + 1) (v ∷ xs)
  laid_push v l =
      record {
        memory = rw (s.memory, ← s.height) (sym (lay_push n clear xs base v (omega (arith, s.height))));
        height = omega (arith, s.height);
        room = omega arith;
        long = s.long;
      }

  pub laid_write : (k : ℕ) (v : A) → 1 ≤ k → k ≤ h → Laid n clear base (set mem (h - k) v) h (set xs (k - 1) v)
  laid_write k v l m =
      record {
        memory = rw (s.memory, ← s.height) (sym (lay_write n clear xs base k v l (omega (arith, s.height))));
        height = length-set xs (k - 1) v ∙ s.height;
        room = s.room;
        long = s.long;
      }

  pub laid_remove : (k : ℕ) → k ≤ h → Laid n clear base (lay h clear (drop k (stack h mem)) mem) (h - k) (drop k xs)
  laid_remove k l = rw laid_stack (laid_over (h - k) (drop k xs) (length-drop k xs ∙ ap (λ j. j - k) s.height) (omega arith))
