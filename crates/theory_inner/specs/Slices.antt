-- The stretch as a part of each lent slice, from the beginning to what is lent: the cells that are lent on, and the whole with a part put back.
use Rattle.std.specs.Prelude.{ℕ, ◌+◌, ◌-◌, ◌≤◌, min, ◌≡◌, refl, List, ◌++◌, length, take, drop}
use Rattle.std.proofs.Common.{arith, sym, ap, ap₂, ◌∙◌, length-take, drop_of_length-le, take_all, take-take, take-add, drop_at, length-take-le}
use Rattle.std.proofs.Math.Decide.{dec_le}
use Rattle.meaning.specs.Machine.{Lent}
use Rattle.meaning.specs.Calls.{Kind, outer, inner, Stacks, lent_of}
use Rattle.meaning_inner.specs.Inner.{above, below, paste}

-- ---- one slice: n cells are lent, the stretch begins at b

module _ {A : Type 0} (n b : ℕ) (xs : List A) where
  -- read
  pub cells_between_lem : b ≤ n → n ≤ length xs → drop b (take n xs) ≡ take (n - b) (drop b xs)
  cells_between_lem l h =
      let e : n ≡ b + (n - b) = omega arith in
      ap (λ j. drop b (take j xs)) e ∙ (ap (drop b) (take-add b (n - b) xs) ∙ drop_at (take b xs) (take (n - b) (drop b xs)) b (length-take-le b xs (omega arith)))

  -- put back
  pub put_between : b ≤ n → (part : List A) → take b (take n xs) ++ (part ++ drop n xs) ≡ take b xs ++ (part ++ drop n xs)
  put_between l part = ap (λ z. z ++ (part ++ drop n xs)) (take-take b n xs l)

  short_take : length (take n xs) ≤ n
  short_take = omega (arith, length-take n xs)

  -- a beginning past what is lent is as good as one at its end
  pub drop_capped : drop (min b n) (take n xs) ≡ drop b (take n xs)
  drop_capped = go (dec_le b n)
    where
      go : Dec (b ≤ n) → drop (min b n) (take n xs) ≡ drop b (take n xs)
      go (yes l) = let e : min b n ≡ b = omega arith in ap (λ j. drop j (take n xs)) e
      go (no l) = let e : min b n ≡ n = omega arith in ap (λ j. drop j (take n xs)) e ∙ (drop_of_length-le (take n xs) {i = n} short_take ∙ sym (drop_of_length-le (take n xs) {i = b} (omega (arith, short_take))))

  pub take_capped : take (min b n) (take n xs) ≡ take b (take n xs)
  take_capped = go (dec_le b n)
    where
      go : Dec (b ≤ n) → take (min b n) (take n xs) ≡ take b (take n xs)
      go (yes l) = let e : min b n ≡ b = omega arith in ap (λ j. take j (take n xs)) e
      go (no l) = let e : min b n ≡ n = omega arith in ap (λ j. take j (take n xs)) e ∙ (take_all n (take n xs) short_take ∙ sym (take_all b (take n xs) (omega (arith, short_take))))

-- ---- both

abbrev pub capped_at : Lent → Kind → Kind
capped_at l outer = outer
capped_at l (inner rb pb) = inner (min rb l.max_registers) (min pb l.max_places)

abbrev pub capped : Stacks → Kind → Kind
capped m k = capped_at (lent_of m) k

module _ (m : Stacks) where
  pub above_capped : (k : Kind) → above (capped m k) m ≡ above k m
  above_capped outer = refl
  above_capped (inner rb pb) = ap₂ (λ x y. record { registers = x; places = y }) (drop_capped (lent_of m).max_registers rb m.registers) (drop_capped (lent_of m).max_places pb m.places)

  pub below_capped : (k : Kind) → below (capped m k) m ≡ below k m
  below_capped outer = refl
  below_capped (inner rb pb) = ap₂ (λ x y. record { registers = x; places = y }) (take_capped (lent_of m).max_registers rb m.registers) (take_capped (lent_of m).max_places pb m.places)

  pub paste_capped : (k : Kind) (part : Stacks) → paste (capped m k) part m ≡ paste k part m
  paste_capped k part = ap (λ (u : Stacks). record { registers = u.registers ++ (part.registers ++ drop (lent_of m).max_registers m.registers); places = u.places ++ (part.places ++ drop (lent_of m).max_places m.places) }) (below_capped k)

module _ (m : Stacks) (rb pb : ℕ) (k : rb ≤ (lent_of m).max_registers) (l : pb ≤ (lent_of m).max_places) where
  -- what is lent on: registers from rb and places from pb to what is lent
  pub above_cells : above (inner rb pb) m ≡ record { registers = take ((lent_of m).max_registers - rb) (drop rb m.registers); places = take ((lent_of m).max_places - pb) (drop pb m.places) }
  above_cells = ap₂ (λ x y. record { registers = x; places = y }) (cells_between_lem (lent_of m).max_registers rb m.registers k (omega arith)) (cells_between_lem (lent_of m).max_places pb m.places l (omega arith))

  pub paste_cells : (part : Stacks)
      → paste (inner rb pb) part m ≡ record { registers = take rb m.registers ++ (part.registers ++ drop (lent_of m).max_registers m.registers); places = take pb m.places ++ (part.places ++ drop (lent_of m).max_places m.places) }
  paste_cells part = ap₂ (λ x y. record { registers = x; places = y }) (put_between (lent_of m).max_registers rb m.registers k part.registers) (put_between (lent_of m).max_places pb m.places l part.places)
