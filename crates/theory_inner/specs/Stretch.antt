-- Stretches of stacks: what is pasted above a beginning is read back, and all else stays.
use Rattle.std.specs.Prelude.{ℕ, ◌-◌, ◌≤◌, min, ◌≡◌, List, ◌++◌, length, take, drop}
use Rattle.std.proofs.Common.{arith, sym, ap, ap₂, ◌∙◌, append_assoc, length-append, length-drop, length-take, take-append-drop, take_at, drop_at}
use Rattle.meaning.specs.Limits.{registers_limit, places_limit}
use Rattle.meaning.specs.Machine.{Lent}
use Rattle.meaning.specs.Calls.{Kind, Stacks, lent_of}
use Rattle.meaning_inner.specs.Inner.{register_base, place_base, above, below, paste}

-- ---- one list: n cells are lent, the stretch begins at b

module _ {A : Type 0} (n b : ℕ) (xs part : List A) (h : n ≤ length xs) (l : b ≤ n) (s : length part ≡ n - b) where
  abbrev under : List A
  under = take b (take n xs)

  under_size : length under ≡ b
  under_size = length-take b (take n xs) ∙ omega (arith, length-take n xs)

  front_size : length (under ++ part) ≡ n
  front_size = length-append under part ∙ omega (arith, under_size)

  abbrev pasted : List A
  pasted = under ++ (part ++ drop n xs)

  pasted_is : pasted ≡ (under ++ part) ++ drop n xs
  pasted_is = sym (append_assoc under part (drop n xs))

  take_pasted : take n pasted ≡ under ++ part
  take_pasted = ap (take n) pasted_is ∙ take_at (under ++ part) (drop n xs) n front_size

  pub drop_pasted : drop n pasted ≡ drop n xs
  drop_pasted = ap (drop n) pasted_is ∙ drop_at (under ++ part) (drop n xs) n front_size

  pub pasted_size : length pasted ≡ length xs
  pasted_size = ap length pasted_is ∙ (length-append (under ++ part) (drop n xs) ∙ omega (arith, front_size, length-drop n xs))

  pub above_pasted : drop b (take n pasted) ≡ part
  above_pasted = ap (drop b) take_pasted ∙ drop_at under part b under_size

  pub below_pasted : take b (take n pasted) ≡ under
  below_pasted = ap (take b) take_pasted ∙ take_at under part b under_size

pasted_same : {A : Type 0} (n b : ℕ) (xs : List A) → take b (take n xs) ++ (drop b (take n xs) ++ drop n xs) ≡ xs
pasted_same n b xs = sym (append_assoc (take b (take n xs)) (drop b (take n xs)) (drop n xs)) ∙ (ap (λ z. z ++ drop n xs) (take-append-drop b (take n xs)) ∙ take-append-drop n xs)

-- ---- both stacks

-- the stretch that begins at k lies in what is lent, and part is as long as it
pub record Fills (k : Kind) (m part : Stacks) : Type 0 where
  pub register_room : register_base k ≤ (lent_of m).max_registers
  pub place_room : place_base k ≤ (lent_of m).max_places
  pub registers : length part.registers ≡ (lent_of m).max_registers - register_base k
  pub places : length part.places ≡ (lent_of m).max_places - place_base k

module _ (k : Kind) (m part : Stacks) (f : Fills k m part) where
  abbrev rn : ℕ
  rn = (lent_of m).max_registers

  abbrev pn : ℕ
  pn = (lent_of m).max_places

  r_lent : rn ≤ length m.registers
  r_lent = omega arith

  p_lent : pn ≤ length m.places
  p_lent = omega arith

  pub paste_lent : lent_of (paste k part m) ≡ lent_of m
  paste_lent =
      ap₂ (λ x y. record { max_registers = min x registers_limit; max_places = min y places_limit })
      (pasted_size rn (register_base k) m.registers part.registers r_lent f.register_room f.registers)
      (pasted_size pn (place_base k) m.places part.places p_lent f.place_room f.places)

  pub paste_above : above k (paste k part m) ≡ part
  paste_above =
      let a = ap (λ (l : Lent). drop (register_base k) (take l.max_registers (paste k part m).registers)) paste_lent ∙ above_pasted rn (register_base k) m.registers part.registers r_lent f.register_room f.registers in
      let b = ap (λ (l : Lent). drop (place_base k) (take l.max_places (paste k part m).places)) paste_lent ∙ above_pasted pn (place_base k) m.places part.places p_lent f.place_room f.places in
      λ i. record { registers = a i; places = b i }

  pub paste_below : below k (paste k part m) ≡ below k m
  paste_below =
      let a = ap (λ (l : Lent). take (register_base k) (take l.max_registers (paste k part m).registers)) paste_lent ∙ below_pasted rn (register_base k) m.registers part.registers r_lent f.register_room f.registers in
      let b = ap (λ (l : Lent). take (place_base k) (take l.max_places (paste k part m).places)) paste_lent ∙ below_pasted pn (place_base k) m.places part.places p_lent f.place_room f.places in
      λ i. record { registers = a i; places = b i }

  pub past_registers_lem : drop rn (paste k part m).registers ≡ drop rn m.registers
  past_registers_lem = drop_pasted rn (register_base k) m.registers part.registers r_lent f.register_room f.registers

  pub past_places_lem : drop pn (paste k part m).places ≡ drop pn m.places
  past_places_lem = drop_pasted pn (place_base k) m.places part.places p_lent f.place_room f.places

  -- pasting once more forgets what was pasted before
  pub paste_again : (q : Stacks) → paste k q (paste k part m) ≡ paste k q m
  paste_again q =
      let a : drop (lent_of (paste k part m)).max_registers (paste k part m).registers ≡ drop rn m.registers = ap (λ (l : Lent). drop l.max_registers (paste k part m).registers) paste_lent ∙ past_registers_lem in
      let b : drop (lent_of (paste k part m)).max_places (paste k part m).places ≡ drop pn m.places = ap (λ (l : Lent). drop l.max_places (paste k part m).places) paste_lent ∙ past_places_lem in
      λ i. record { registers = (paste_below i).registers ++ (q.registers ++ a i); places = (paste_below i).places ++ (q.places ++ b i) }

pub paste_same : (k : Kind) (m : Stacks) → paste k (above k m) m ≡ m
paste_same k m = λ i. record { registers = pasted_same (lent_of m).max_registers (register_base k) m.registers i; places = pasted_same (lent_of m).max_places (place_base k) m.places i }

-- ---- its size: what is left of what is lent

module _ (k : Kind) (m : Stacks) where
  pub above_registers : length (above k m).registers ≡ (lent_of m).max_registers - register_base k
  above_registers = length-drop (register_base k) (take (lent_of m).max_registers m.registers) ∙ omega (arith, length-take (lent_of m).max_registers m.registers)

  pub above_places : length (above k m).places ≡ (lent_of m).max_places - place_base k
  above_places = length-drop (place_base k) (take (lent_of m).max_places m.places) ∙ omega (arith, length-take (lent_of m).max_places m.places)
