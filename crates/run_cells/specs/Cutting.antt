-- What is made on the lent cells, with the cells past them as they were.
use Rattle.std.specs.Prelude.{ℕ, ◌-◌, min, ◌≡◌, Bool, true, false, List, [], ◌++◌, map, reverse, length, take, drop, replicate, ltb, ℤ}
use Rattle.std.proofs.Common.{arith, ap, ap₂, ◌∙◌, append-nil, length-take, take-append-drop, drop_of_length-le}
use Rattle.meaning.specs.Limits.{registers_limit, places_limit}
use Rattle.meaning.specs.Grammar.{Grammar}
use Rattle.meaning.specs.Value.{mark}
use Rattle.meaning.specs.Machine.{Config, Lent, Settled, stopped, failed, opening, place_of}
use Rattle.meaning.specs.Calls as Calls
use Rattle.meaning.specs.Calls.{Stacks, Called, lay, lent_of, lay_all, record_of, closed_record, as_brought, refused, more, after_feed, after_finish_value, open_of}
use Rattle.meaning.specs.PublicCalls.{stacks_of}

-- the cells past the first n and k, put back
abbrev pub uncut : ℕ → ℕ → List ℤ → List ℕ → Called → Called
uncut n k vs ps c = record { answer = c.answer; state = c.state; stacks = stacks_of (c.stacks.registers ++ drop n vs) (c.stacks.places ++ drop k ps) }

lay_cut : {A : Type 0} (n : ℕ) (clear : A) (xs mem : List A) → lay n clear xs (take n mem) ++ drop n mem ≡ lay n clear xs mem
lay_cut n clear xs mem =
    let none : drop n (take n mem) ≡ [] = drop_of_length-le (take n mem) {i = n} (omega (arith, length-take n mem)) in
    ap (λ z. z ++ drop n mem) (ap (λ z. reverse xs ++ replicate (n - length xs) clear ++ z) none ∙ append-nil (reverse xs ++ replicate (n - length xs) clear))

module _ (g : Grammar) (vs : List ℤ) (ps : List ℕ) where
  abbrev m : Stacks
  m = stacks_of vs ps

  abbrev n : ℕ
  n = (lent_of (stacks_of vs ps)).max_registers

  abbrev k : ℕ
  k = (lent_of (stacks_of vs ps)).max_places

  abbrev cells : Stacks
  cells = stacks_of (take (lent_of (stacks_of vs ps)).max_registers vs) (take (lent_of (stacks_of vs ps)).max_places ps)

  pub lent_same : lent_of cells ≡ lent_of m
  lent_same =
      let a : (lent_of cells).max_registers ≡ n = omega (arith, length-take n vs) in
      let b : (lent_of cells).max_places ≡ k = omega (arith, length-take k ps) in
      λ i. record { max_registers = a i; max_places = b i }

  pub put_back : (uncut n k vs ps (as_brought (more 0) closed_record cells)).stacks ≡ m
  put_back = ap₂ stacks_of (take-append-drop n vs) (take-append-drop k ps)

  lay_all_cut : (c : Config) → stacks_of ((lay_all g c cells).registers ++ drop n vs) ((lay_all g c cells).places ++ drop k ps) ≡ lay_all g c m
  lay_all_cut c =
      ap (λ l. stacks_of (lay l.max_registers mark c.registers cells.registers ++ drop n vs) (lay l.max_places 0 (map (place_of g) c.frames) cells.places ++ drop k ps)) lent_same
      ∙ ap₂ stacks_of (lay_cut n mark c.registers vs) (lay_cut k 0 (map (place_of g) c.frames) ps)

  -- ---- an opening

  abbrev open_with : Lent → Stacks → Stacks → Called
  open_with l b s =
      elim (ltb l.max_registers (length (opening g).registers)) [
        | true ↦ as_brought (refused 31 0) closed_record b
        | false ↦ elim (ltb l.max_places 1) [
          | true ↦ as_brought (refused 32 0) closed_record b
          | false ↦ record { answer = more 0; state = record_of true (opening g); stacks = s }
        ]
      ]

  abbrev open_by : Bool → Bool → Stacks → Stacks → Called
  open_by a c b s = elim a [ true ↦ as_brought (refused 31 0) closed_record b | false ↦ elim c [ true ↦ as_brought (refused 32 0) closed_record b | false ↦ record { answer = more 0; state = record_of true (opening g); stacks = s } ] ]

  pub open_cut : uncut n k vs ps (open_of g cells) ≡ open_of g m
  open_cut =
      ap (λ l. uncut n k vs ps (open_with l cells (lay_all g (opening g) cells))) lent_same
      ∙ go (ltb n (length (opening g).registers)) (ltb k 1)
    where
      go : (a c : Bool) → uncut n k vs ps (open_by a c cells (lay_all g (opening g) cells)) ≡ open_by a c m (lay_all g (opening g) m)
      go true c = ap (as_brought (refused 31 0) closed_record) put_back
      go false true = ap (as_brought (refused 32 0) closed_record) put_back
      go false false = ap (λ s. record { answer = more 0; state = record_of true (opening g); stacks = s }) (lay_all_cut (opening g))

  -- ---- what a feed and a finish leave

  pub fed_cut : (o : Settled) → uncut n k vs ps (after_feed g cells o) ≡ after_feed g m o
  fed_cut (stopped c) = ap (as_brought (more c.moves) (record_of true c)) (lay_all_cut c)
  fed_cut (failed c j) = ap (as_brought (refused j c.tokens) (record_of false c)) (lay_all_cut c)

  pub finished_cut : (o : Settled) → uncut n k vs ps (after_finish_value g cells o) ≡ after_finish_value g m o
  finished_cut (stopped c) = ap (as_brought (Calls.value (Calls.result g c) c.moves) (record_of false c)) (lay_all_cut c)
  finished_cut (failed c j) = ap (as_brought (refused j c.tokens) (record_of false c)) (lay_all_cut c)

-- what is made on the first n and k cells, where these are the lent ones
pub made_whole : (made : Stacks → Called) (vs : List ℤ) (ps : List ℕ) (n k : ℕ) → n ≡ min (length vs) registers_limit → k ≡ min (length ps) places_limit → (c : Called) → c ≡ made (stacks_of (take n vs) (take k ps))
    → uncut (min (length vs) registers_limit) (min (length ps) places_limit) vs ps (made (stacks_of (take (min (length vs) registers_limit) vs) (take (min (length ps) places_limit) ps))) ≡ made (stacks_of vs ps)
    → uncut n k vs ps c ≡ made (stacks_of vs ps)
made_whole made vs ps n k e d c q h = ap (uncut n k vs ps) q ∙ (ap₂ (λ x y. uncut x y vs ps (made (stacks_of (take x vs) (take y ps)))) e d ∙ h)
