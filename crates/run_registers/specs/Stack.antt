-- A stack in memory, the bottom at index 0: what is read and written at a place counted from the top, and what growing and shrinking leave. For any kind of cell and any clear value.
use Rattle.std.specs.Prelude.{ℕ, zero, suc, ◌+◌, ◌-◌, ◌≤◌, ◌<◌, ◌≡◌, refl, length, get_or, set, take, drop, replicate}
use Rattle.std.proofs.Common.{arith, sym, ap, ◌∙◌, length-append, length-set, length-take-le, set-set}
use mathlib.Core.List.{List, [], ◌∷◌, ◌++◌, append_assoc, reverse, reverse-cons, reverse-append, reverse-reverse}
use Rattle.std.proofs.lemmas.List.{length-reverse, length-replicate, replicate-append-replicate, set_at, set-append_left}
use Rattle.std.proofs.Math.ListN.{get_or-append}
use Rattle.std.proofs.Math.Seq.{get_or-append_seam, set-append_seam}
use Rattle.meaning.specs.Calls.{lay}
use Rattle.theory_base.specs.Members.{get_d_any}
use Rattle.theory_answers.specs.Memory.{lay_front, lay_above, lay_same}

-- the first h cells, the top first
abbrev pub stack : {A : Type 0} → ℕ → List A → List A
stack h mem = reverse (take h mem)

pub stack_length : {A : Type 0} (h : ℕ) (mem : List A) → h ≤ length mem → length (stack h mem) ≡ h
stack_length h mem l = length-reverse (take h mem) ∙ length-take-le h mem l

-- ---- a list backwards

reverse_get : {A : Type 0} (xs : List A) (k : ℕ) (d : A) → k < length xs → get_or (reverse xs) (length xs - suc k) d ≡ get_or xs k d
reverse_get [] k d l = absurd (omega arith)
reverse_get (x ∷ xs) zero d l = rw (reverse-cons x xs) (ap (λ j. get_or (reverse xs ++ (x ∷ [])) j d) (omega (arith, length-reverse xs)) ∙ get_or-append_seam (reverse xs) x [] d)
reverse_get (x ∷ xs) (suc k) d l =
    let e : suc (length xs) - suc (suc k) ≡ length xs - suc k = omega arith in
    rw (reverse-cons x xs, e) (get_or-append (reverse xs) (x ∷ []) d (length xs - suc k) (omega (arith, length-reverse xs)) ∙ reverse_get xs k d (omega arith))

reverse_set : {A : Type 0} (xs : List A) (k : ℕ) (v : A) → k < length xs → reverse (set xs k v) ≡ set (reverse xs) (length xs - suc k) v
reverse_set [] k v l = absurd (omega arith)
reverse_set (x ∷ xs) zero v l = reverse-cons v xs ∙ sym (rw (reverse-cons x xs) (ap (λ j. set (reverse xs ++ (x ∷ [])) j v) (omega (arith, length-reverse xs)) ∙ set-append_seam (reverse xs) x [] v))
reverse_set (x ∷ xs) (suc k) v l =
    let e : suc (length xs) - suc (suc k) ≡ length xs - suc k = omega arith in
    reverse-cons x (set xs k v)
    ∙ (ap (λ z. z ++ (x ∷ [])) (reverse_set xs k v (omega arith))
    ∙ sym (rw (reverse-cons x xs, e) (set-append_left (reverse xs) (x ∷ []) (length xs - suc k) v (omega (arith, length-reverse xs)))))

pub reverse_replicate : {A : Type 0} (k : ℕ) (a : A) → reverse (replicate k a) ≡ replicate k a
reverse_replicate zero a = refl
reverse_replicate (suc k) a =
    let e : k + 1 ≡ suc k = omega arith in
    reverse-cons a (replicate k a) ∙ (ap (λ z. z ++ (a ∷ [])) (reverse_replicate k a) ∙ (replicate-append-replicate k 1 a ∙ ap (λ j. replicate j a) e))

-- ---- a stack laid into n cells

module _ {A : Type 0} (n : ℕ) (clear : A) where
  lay_split : (xs mem : List A) → lay n clear xs mem ≡ reverse xs ++ (replicate (n - length xs) clear ++ drop n mem)
  lay_split xs mem = append_assoc (reverse xs) (replicate (n - length xs) clear) (drop n mem)

  pub lay_stack : (xs mem : List A) → stack (length xs) (lay n clear xs mem) ≡ xs
  lay_stack xs mem = ap reverse (lay_front n clear xs mem) ∙ reverse-reverse xs

  -- place k, counted from 1 at the top
  pub lay_read : (xs mem : List A) (k : ℕ) (d : A) → 1 ≤ k → k ≤ length xs → get_or (lay n clear xs mem) (length xs - k) d ≡ get_or xs (k - 1) d
  lay_read xs mem k d l m =
      let e : length xs - k ≡ length xs - suc (k - 1) = omega arith in
      rw (lay_split xs mem, e) (get_or-append (reverse xs) _ d (length xs - suc (k - 1)) (omega (arith, length-reverse xs)) ∙ reverse_get xs (k - 1) d (omega arith))

  pub lay_write : (xs mem : List A) (k : ℕ) (v : A) → 1 ≤ k → k ≤ length xs → lay n clear (set xs (k - 1) v) mem ≡ set (lay n clear xs mem) (length xs - k) v
  lay_write xs mem k v l m =
      let e : length xs - suc (k - 1) ≡ length xs - k = omega arith in
      let rest : List A = replicate (n - length xs) clear ++ drop n mem in
      let r : reverse (set xs (k - 1) v) ≡ set (reverse xs) (length xs - k) v = reverse_set xs (k - 1) v (omega arith) ∙ ap (λ j. set (reverse xs) j v) e in
      rw (lay_split (set xs (k - 1) v) mem, lay_split xs mem, length-set xs (k - 1) v, r) (sym (set-append_left (reverse xs) rest (length xs - k) v (omega (arith, length-reverse xs))))

  -- cells above the stack are clear already
  pub lay_add : (xs mem : List A) (k : ℕ) → length xs + k ≤ n → lay n clear (replicate k clear ++ xs) mem ≡ lay n clear xs mem
  lay_add xs mem k l =
      let e : k + (n - length (replicate k clear ++ xs)) ≡ n - length xs = omega (arith, length-append (replicate k clear) xs, length-replicate k clear) in
      let r : reverse (replicate k clear ++ xs) ≡ reverse xs ++ replicate k clear = reverse-append (replicate k clear) xs ∙ ap (λ z. reverse xs ++ z) (reverse_replicate k clear) in
      let t : replicate k clear ++ replicate (n - length (replicate k clear ++ xs)) clear ≡ replicate (n - length xs) clear = replicate-append-replicate k _ clear ∙ ap (λ j. replicate j clear) e in
      ap (λ z. z ++ drop n mem) (ap (λ z. z ++ replicate (n - length (replicate k clear ++ xs)) clear) r ∙ (append_assoc (reverse xs) (replicate k clear) _ ∙ ap (λ z. reverse xs ++ z) t))

  pub lay_push : (xs mem : List A) (v : A) → length xs < n → lay n clear (v ∷ xs) mem ≡ set (lay n clear xs mem) (length xs) v
  lay_push xs mem v l =
      let e : n - length xs ≡ suc (n - suc (length xs)) = omega arith in
      let rest : List A = replicate (n - suc (length xs)) clear ++ drop n mem in
      lay_split (v ∷ xs) mem
      ∙ (ap (λ z. z ++ rest) (reverse-cons v xs)
      ∙ (append_assoc (reverse xs) (v ∷ []) rest
      ∙ sym (rw (lay_split xs mem, e) (set_at (reverse xs) clear rest v (length xs) (length-reverse xs)))))

  -- the top is cleared when it goes
  pub lay_pop : (x : A) (xs mem : List A) → length xs < n → lay n clear xs mem ≡ set (lay n clear (x ∷ xs) mem) (length xs) clear
  lay_pop x xs mem l =
      sym (lay_add xs mem 1 (omega arith))
      ∙ (lay_push xs mem clear l
      ∙ sym (rw (lay_push xs mem x l) (set-set (lay n clear xs mem) (length xs) x clear)))

  -- a stack that is no higher, laid over the first one's cells
  pub lay_over : (xs ys mem : List A) → length ys ≤ length xs → length xs ≤ n → lay (length xs) clear ys (lay n clear xs mem) ≡ lay n clear ys mem
  lay_over xs ys mem l m =
      let h : ℕ = length xs in
      let e : (h - length ys) + (n - h) ≡ n - length ys = omega arith in
      let r : replicate (h - length ys) clear ++ replicate (n - h) clear ≡ replicate (n - length ys) clear = replicate-append-replicate (h - length ys) (n - h) clear ∙ ap (λ j. replicate j clear) e in
      ap (λ z. (reverse ys ++ replicate (h - length ys) clear) ++ z) (lay_above n clear xs mem)
      ∙ (sym (append_assoc (reverse ys ++ replicate (h - length ys) clear) (replicate (n - h) clear) (drop n mem))
      ∙ ap (λ z. z ++ drop n mem) (append_assoc (reverse ys) (replicate (h - length ys) clear) (replicate (n - h) clear) ∙ ap (λ z. reverse ys ++ z) r))

-- ---- the cells of a memory, as a stack

module _ {A : Type 0} (clear : A) (h : ℕ) (mem : List A) (l : h ≤ length mem) where
  -- what stands there is its own stack
  pub stack_laid : lay h clear (stack h mem) mem ≡ mem
  stack_laid = lay_same h h clear mem (omega arith) l (λ i p q. absurd (omega arith))

  pub stack_read : (k : ℕ) (d : A) → 1 ≤ k → k ≤ h → get_or mem (h - k) d ≡ get_or (stack h mem) (k - 1) clear
  stack_read k d m n =
      let e = stack_length h mem l in
      get_d_any mem (h - k) d clear (omega arith)
      ∙ (ap (λ z. get_or z (h - k) clear) (sym stack_laid) ∙ (ap (λ j. get_or (lay h clear (stack h mem) mem) (j - k) clear) (sym e) ∙ lay_read h clear (stack h mem) mem k clear m (omega arith)))

  pub write_laid : (k : ℕ) (v : A) → 1 ≤ k → k ≤ h → set mem (h - k) v ≡ lay h clear (set (stack h mem) (k - 1) v) mem
  write_laid k v m n =
      let e = stack_length h mem l in
      ap (λ z. set z (h - k) v) (sym stack_laid) ∙ (ap (λ j. set (lay h clear (stack h mem) mem) (j - k) v) (sym e) ∙ sym (lay_write h clear (stack h mem) mem k v m (omega arith)))

  pub stack_write : (k : ℕ) (v : A) → 1 ≤ k → k ≤ h → stack h (set mem (h - k) v) ≡ set (stack h mem) (k - 1) v
  stack_write k v m n =
      let ys : List A = set (stack h mem) (k - 1) v in
      let e : length ys ≡ h = length-set (stack h mem) (k - 1) v ∙ stack_length h mem l in
      ap (stack h) (write_laid k v m n) ∙ (ap (λ j. stack j (lay h clear ys mem)) (sym e) ∙ lay_stack h clear ys mem)
