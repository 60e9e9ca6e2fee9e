-- What an opening leaves in the lent cells.
use Rattle.std.specs.Prelude.{ℕ, ◌-◌, ◌≤◌, ◌<◌, ◌≡◌, refl, Bool, true, false, List, [], ◌++◌, map, length, get_or, set, replicate, ltb, ℤ}
use Rattle.std.proofs.Common.{arith, sym, ap, ◌∙◌, append-nil, drop_of_length-le, lt-ltb, le-ltb}
use Rattle.std.proofs.lemmas.List.{length-replicate}
use Rattle.meaning.specs.Limits.{registers_limit, places_limit}
use Rattle.meaning.specs.Grammar.{Grammar, nonterminal, syn, segment_place}
use Rattle.meaning.specs.Value.{mark}
use Rattle.meaning.specs.Machine.{opening, place_of}
use Rattle.meaning.specs.Calls as Calls
use Rattle.meaning.specs.Calls.{running, outer, lay, lent_of, lay_all, record_of, closed_record, as_brought, refused, more, open_of}
use Rattle.run_registers.specs.Stack.{lay_add, lay_push}
use Rattle.theory_program.specs.Addresses.{Begins}
use Rattle.theory_program.specs.Records.{segment_words_lem}
use Rattle.meaning.specs.PublicCalls.{stacks_of}

-- all cells cleared
cleared : {A : Type 0} (clear : A) (n : ℕ) (mem : List A) → n ≡ length mem → lay n clear [] mem ≡ replicate (length mem) clear
cleared clear n mem e =
    let size : n - 0 ≡ length mem = omega arith in
    ap (λ y. replicate (n - 0) clear ++ y) (drop_of_length-le mem {i = n} (omega arith)) ∙ (append-nil (replicate (n - 0) clear) ∙ ap (λ j. replicate j clear) size)

module _ (g : Grammar) (ws : List ℕ) (b : Begins g ws) (vs : List ℤ) (ps : List ℕ) (few : length vs ≤ registers_limit) (little : length ps ≤ places_limit) where
  abbrev opened : Calls.Called
  opened = record { answer = more 0; state = record_of true (opening g); stacks = lay_all g (opening g) (stacks_of vs ps) }

  -- by the tests of 31 and 32
  abbrev open_by : Bool → Bool → Calls.Called
  open_by a c = elim a [ true ↦ as_brought (refused 31 0) closed_record (stacks_of vs ps) | false ↦ elim c [ true ↦ as_brought (refused 32 0) closed_record (stacks_of vs ps) | false ↦ opened ] ]

  marked : length (opening g).registers ≡ get_or ws 4 0
  marked = length-replicate (syn g (nonterminal g.start)) mark ∙ sym (segment_words_lem b).registers

  pub open_31 : length vs < get_or ws 4 0 → as_brought (refused 31 0) closed_record (stacks_of vs ps) ≡ open_of g (stacks_of vs ps)
  open_31 l = sym (ap (λ z. open_by z (ltb (lent_of (stacks_of vs ps)).max_places 1)) (lt-ltb (lent_of (stacks_of vs ps)).max_registers (length (opening g).registers) (omega (arith, marked))))

  module _ (l : get_or ws 4 0 ≤ length vs) where
    roomy : ltb (lent_of (stacks_of vs ps)).max_registers (length (opening g).registers) ≡ false
    roomy = le-ltb (lent_of (stacks_of vs ps)).max_registers (length (opening g).registers) (omega (arith, marked))

    pub open_32 : length ps ≡ 0 → as_brought (refused 32 0) closed_record (stacks_of vs ps) ≡ open_of g (stacks_of vs ps)
    open_32 z = sym (ap (λ y. open_by y (ltb (lent_of (stacks_of vs ps)).max_places 1)) roomy ∙ ap (open_by false) (lt-ltb (lent_of (stacks_of vs ps)).max_places 1 (omega arith)))

    module _ (z : length ps ≡ 0 → ⊥) where
      is_open : open_of g (stacks_of vs ps) ≡ opened
      is_open = ap (λ y. open_by y (ltb (lent_of (stacks_of vs ps)).max_places 1)) roomy ∙ ap (open_by false) (le-ltb (lent_of (stacks_of vs ps)).max_places 1 (some (length ps) refl))
        where
          some : (n : ℕ) → length ps ≡ n → 1 ≤ (lent_of (stacks_of vs ps)).max_places
          some n e = omega (arith, z)

      registers_are : replicate (length vs) mark ≡ lay (lent_of (stacks_of vs ps)).max_registers mark (opening g).registers vs
      registers_are =
          let n : ℕ = (lent_of (stacks_of vs ps)).max_registers in
          let k : ℕ = syn g (nonterminal g.start) in
          sym (cleared mark n vs (omega arith))
          ∙ (sym (lay_add n mark [] vs k (omega (arith, marked, length-replicate k mark)))
          ∙ ap (λ y. lay n mark y vs) (append-nil (replicate k mark)))

      places_are : set (replicate (length ps) 0) 0 segment_place ≡ lay (lent_of (stacks_of vs ps)).max_places 0 (map (place_of g) (opening g).frames) ps
      places_are =
          let n : ℕ = (lent_of (stacks_of vs ps)).max_places in
          ap (λ y. set y 0 segment_place) (sym (cleared 0 n ps (omega arith)))
          ∙ sym (lay_push n 0 [] ps segment_place (omega (arith, z)))

      pub open_made : (count : ℕ) (vs' : List ℤ) (ps' : List ℕ) → count ≡ get_or ws 4 0 → vs' ≡ replicate (length vs) mark → ps' ≡ replicate (length ps) 0
          → record { answer = more 0; state = record { status = running; kind = outer; tokens = 0; moves = 0; register_height = count; place_height = 1 }; stacks = stacks_of vs' (set ps' 0 segment_place) } ≡ open_of g (stacks_of vs ps)
      open_made count vs' ps' e d f =
          let a : count ≡ length (opening g).registers = e ∙ sym marked in
          let x : vs' ≡ lay (lent_of (stacks_of vs ps)).max_registers mark (opening g).registers vs = d ∙ registers_are in
          let y : set ps' 0 segment_place ≡ lay (lent_of (stacks_of vs ps)).max_places 0 (map (place_of g) (opening g).frames) ps = ap (λ z. set z 0 segment_place) f ∙ places_are in
          (λ i. record { answer = more 0; state = record { status = running; kind = outer; tokens = 0; moves = 0; register_height = a i; place_height = 1 }; stacks = stacks_of (x i) (y i) }) ∙ sym is_open
