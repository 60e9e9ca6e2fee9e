-- The loop over the places, a turn at a time.
use Prim.Native.Nat.{ℕ, zero, suc, ◌+◌, ◌-◌, ◌*◌, ◌<◌, ◌≤◌}
use native.Mathlib.Numerals.{add-one}
use native.Mathlib.Omega.{arith}
use mathlib.Core.Path.{◌≡◌, refl, sym, ap, ap₂, ◌∙◌}
use mathlib.Core.Bool.{Bool, true, false, ◌&&◌, not, cond, and-false, or-false}
use Rattle.std.specs.List.{prefix_len}
use Rattle.std.proofs.Common.{drop-drop}
use mathlib.Core.List.{List, [], ◌∷◌, ◌++◌, append_assoc, append-nil}
use borrow.Author.Tests.{eq-eqb, ne_eqb, eqb-true}
use lib.IntN.{ℤ}
use lib.Dec.{eqb}
use lib.ListN.{length, get_or, take, drop, replicate, length-drop, drop_of_length-le}
use lib.Seq.{drop-cons, take_all}
use Rattle.meaning.specs.Grammar.{Symbol, nonterminal, Grammar, syn, segment_place, nonterminal_base}
use Rattle.meaning.specs.Table.{symbol_of}
use Rattle.meaning.specs.Calls.{Cell, valued, marked, cells_fit, awaited}
use Rattle.theory_program.specs.Parts.{head_operand, wait_left, wait_passed, wait_marked, wait_inherited, wait_symbol}
use Rattle.run_fit.specs.past.Passing.{Passes, repeated, repeated_front, fits_from, past_end, from_start, from_end, cells_between}
use Rattle.run_fit.specs.Upward.{regrouped, stands_fit, places_above, cells_of, cells_above}
use Rattle.run_fit.specs.HasProgram.{HasProgram, wait_at, word_on, cells_in, on_word, start_count, start_symbol, symbol_awaited, cells_of_lem}

-- the places above one that waits at x stand, and the registers from `at` up are theirs
abbrev pub stands : Grammar → Symbol → List ℕ → List ℤ → ℕ → Bool
stands g x ps vs at = places_above g x ps && fits_from vs at (cells_above g ps)

-- the places above one with word v stand, and the registers from `at` up are theirs, behind the last ones of that with word v
abbrev pub follow : Grammar → ℕ → List ℕ → List ℤ → ℕ → Bool
follow g v ps vs at = not (eqb v 0) && (places_above g (symbol_of (wait_symbol v)) ps && fits_from vs at (replicate (wait_inherited v) valued ++ cells_above g ps))

-- above the bottom place, whose word has the start symbol alone
pub follow_start : {g : Grammar} {ws : List ℕ} → HasProgram g ws → (ps : List ℕ) (vs : List ℤ) (at : ℕ) → stands g (nonterminal g.start) ps vs at ≡ follow g ((nonterminal_base + head_operand (get_or ws 0 0)) * 2097152) ps vs at
follow_start {g} {ws} s ps vs at =
    let v : ℕ = (nonterminal_base + head_operand (get_or ws 0 0)) * 2097152 in
    let none : wait_inherited v ≡ 0 = omega arith in
    sym (rw (ne_eqb v 0 (λ e. omega arith), start_symbol s, none) refl)

module _ {g : Grammar} {ws : List ℕ} (s : HasProgram g ws) (vs : List ℤ) (places : List ℕ) (i at v : ℕ) (l : i < length places) where
  abbrev here : ℕ
  here = get_or places i 0

  abbrev next : ℕ
  next = wait_at ws here

  abbrev awaited_byte : ℕ
  awaited_byte = wait_symbol v

  abbrev pending : List Cell
  pending = replicate (wait_inherited v) valued

  follow_here : follow g v (drop i places) vs at ≡ not (eqb v 0) && ((word_on next awaited_byte && places_above g (awaited g here) (drop (i + 1) places)) && fits_from vs at (pending ++ (cells_of g here ++ cells_above g (drop (i + 1) places))))
  unfolding places_above cells_above
  follow_here = rw (add-one i, drop-cons places i 0 l, ← on_word s here awaited_byte) refl

  pub follow_not : eqb (nonterminal_base + wait_left next) awaited_byte ≡ false → follow g v (drop i places) vs at ≡ false
  follow_not e = follow_here ∙ rw (e, and-false (not (eqb next 0))) (and-false (not (eqb v 0)))

  pub follow_turn : {r : ℕ} → eqb (nonterminal_base + wait_left next) awaited_byte ≡ true → Passes vs (cells_between v next) at r → follow g v (drop i places) vs at ≡ follow g next (drop (i + 1) places) vs r
  follow_turn {r} e p = by (eqb next 0) refl
    where
      some : eqb v 0 ≡ false
      some = ne_eqb v 0 (λ z. omega (arith, eqb-true (nonterminal_base + wait_left next) awaited_byte e))

      by : (b : Bool) → eqb next 0 ≡ b → follow g v (drop i places) vs at ≡ not b && (places_above g (symbol_of (wait_symbol next)) (drop (i + 1) places) && fits_from vs r (replicate (wait_inherited next) valued ++ cells_above g (drop (i + 1) places)))
      by true d = follow_here ∙ rw d (and-false (not (eqb v 0)))
      by false d =
          let on : word_on next awaited_byte ≡ true = rw (d, e) refl in
          let above : List Cell = cells_above g (drop (i + 1) places) in
          let cells : fits_from vs at (pending ++ (cells_of g here ++ above)) ≡ fits_from vs r (replicate (wait_inherited next) valued ++ above) =
          ap (λ z. fits_from vs at (pending ++ (z ++ above))) (sym (cells_of_lem s here awaited_byte on))
          ∙ (ap (fits_from vs at) (regrouped (wait_inherited v) (wait_passed next) (wait_marked next) (wait_inherited next) above)
          ∙ p.same (replicate (wait_inherited next) valued ++ above)) in
          follow_here ∙ rw (some, on, cells, symbol_awaited s here awaited_byte on) refl

-- ---- equal places

-- w is the word of place p, which can stand on itself
module _ {g : Grammar} {ws : List ℕ} (s : HasProgram g ws) (vs : List ℤ) (p w : ℕ) (d : w ≡ wait_at ws p) (e : eqb (nonterminal_base + wait_left w) (wait_symbol w) ≡ true) where
  on_itself : word_on (wait_at ws p) (wait_symbol w) ≡ true
  on_itself = ap (λ v. word_on v (wait_symbol w)) (sym d) ∙ rw (ne_eqb w 0 (λ z. omega (arith, eqb-true (nonterminal_base + wait_left w) (wait_symbol w) e)), e) refl

  waits_for : symbol_of (wait_symbol w) ≡ awaited g p
  waits_for = ap (λ v. symbol_of (wait_symbol v)) d ∙ symbol_awaited s p (wait_symbol w) on_itself

  places_alike : (n : ℕ) (ps : List ℕ) → places_above g (symbol_of (wait_symbol w)) (replicate n p ++ ps) ≡ places_above g (symbol_of (wait_symbol w)) ps
  unfolding places_above
  places_alike zero ps = refl
  places_alike (suc n) ps = ap₂ (λ b x. b && places_above g x (replicate n p ++ ps)) (sym (on_word s p (wait_symbol w)) ∙ on_itself) (sym waits_for) ∙ places_alike n ps

  cells_alike : (n : ℕ) (ps : List ℕ) → replicate (wait_inherited w) valued ++ cells_above g (replicate n p ++ ps) ≡ repeated n (cells_between w w) ++ (replicate (wait_inherited w) valued ++ cells_above g ps)
  unfolding cells_above repeated
  cells_alike zero ps = refl
  cells_alike (suc n) ps =
      let above : List Cell = cells_above g (replicate n p ++ ps) in
      let rest : List Cell = replicate (wait_inherited w) valued ++ cells_above g ps in
      ap (λ z. replicate (wait_inherited w) valued ++ (z ++ above)) (sym (ap cells_in d ∙ cells_of_lem s p (wait_symbol w) on_itself))
      ∙ (regrouped (wait_inherited w) (wait_passed w) (wait_marked w) (wait_inherited w) above
      ∙ (ap (λ z. cells_between w w ++ z) (cells_alike n ps)
      ∙ (sym (append_assoc (cells_between w w) (repeated n (cells_between w w)) rest)
      ∙ ap (λ z. z ++ rest) (repeated_front n (cells_between w w)))))

  pub follow_alike : (n : ℕ) (ps : List ℕ) (at : ℕ) {r : ℕ} → Passes vs (repeated n (cells_between w w)) at r → follow g w (replicate n p ++ ps) vs at ≡ follow g w ps vs r
  follow_alike n ps at q = ap₂ (λ b c. not (eqb w 0) && (b && c)) (places_alike n ps) (ap (fits_from vs at) (cells_alike n ps) ∙ q.same (replicate (wait_inherited w) valued ++ cells_above g ps))

-- the places in front that are p
front_alike : (p : ℕ) (ps : List ℕ) → ps ≡ replicate (prefix_len (λ x. eqb x p) ps) p ++ drop (prefix_len (λ x. eqb x p) ps) ps
front_alike p [] = refl
front_alike p (x ∷ xs) = by (eqb x p) refl (front_alike p xs)
  where
    by : (b : Bool) → eqb x p ≡ b → xs ≡ replicate (prefix_len (λ y. eqb y p) xs) p ++ drop (prefix_len (λ y. eqb y p) xs) xs → x ∷ xs ≡ replicate (cond b (1 + prefix_len (λ y. eqb y p) xs) 0) p ++ drop (cond b (1 + prefix_len (λ y. eqb y p) xs) 0) (x ∷ xs)
    by true e q = let s : suc (prefix_len (λ y. eqb y p) xs) ≡ 1 + prefix_len (λ y. eqb y p) xs = omega arith in ap₂ (λ y ys. y ∷ ys) (eqb-true x p e) q ∙ ap (λ j. replicate j p ++ drop j (x ∷ xs)) s
    by false e q = refl

-- a place, and those behind it that are the same
pub alike_from : (places : List ℕ) (i p n : ℕ) → i < length places → get_or places i 0 ≡ p → n ≡ prefix_len (λ x. eqb x p) (take (length places - (i + 1)) (drop (i + 1) places)) → drop i places ≡ replicate (1 + n) p ++ drop (i + (1 + n)) places
alike_from places i p n l e q =
    let whole : take (length places - (i + 1)) (drop (i + 1) places) ≡ drop (i + 1) places = take_all (length places - (i + 1)) (drop (i + 1) places) (omega (arith, length-drop (i + 1) places)) in
    let s : suc n ≡ 1 + n = omega arith in
    let k : i + 1 + n ≡ i + (1 + n) = omega arith in
    let rest : drop (i + 1) places ≡ replicate n p ++ drop (i + (1 + n)) places =
    front_alike p (drop (i + 1) places)
    ∙ (ap (λ j. replicate j p ++ drop j (drop (i + 1) places)) (sym (q ∙ ap (prefix_len (λ x. eqb x p)) whole))
    ∙ ap (λ z. replicate n p ++ z) (drop-drop n (i + 1) places ∙ ap (λ j. drop j places) k)) in
    drop-cons places i 0 l
    ∙ (ap₂ (λ x ys. x ∷ ys) e (ap (λ j. drop j places) (sym (add-one i)) ∙ rest)
    ∙ ap (λ j. replicate j p ++ drop (i + (1 + n)) places) s)

-- ---- the end of the places, and of the registers

module _ (g : Grammar) (v : ℕ) (ps : List ℕ) (vs : List ℤ) (at : ℕ) where
  pub follow_past : length vs < at → follow g v ps vs at ≡ false
  follow_past l = rw (past_end vs at (replicate (wait_inherited v) valued ++ cells_above g ps) l, and-false (places_above g (symbol_of (wait_symbol v)) ps)) (and-false (not (eqb v 0)))

  pub follow_none : v ≡ 0 → follow g v ps vs at ≡ false
  follow_none e = rw (eq-eqb v 0 e) refl

pub follow_end : (g : Grammar) (v : ℕ) (places : List ℕ) (vs : List ℤ) (i at : ℕ) {r : ℕ} → length places ≤ i → (v ≡ 0 → ⊥) → Passes vs (replicate (wait_inherited v) valued) at r → follow g v (drop i places) vs at ≡ eqb r (length vs)
unfolding places_above cells_above
follow_end g v places vs i at l n p = rw (drop_of_length-le places {i = i} l, ne_eqb v 0 n) (p.same [] ∙ from_end vs _)

-- ---- from the bottom place on

module _ {g : Grammar} {ws : List ℕ} (s : HasProgram g ws) (vs : List ℤ) (places : List ℕ) where
  pub bottom_none : length places ≡ 0 → stands_fit g places vs ≡ false
  unfolding stands_fit
  bottom_none e = by places e
    where
      by : (ps : List ℕ) → length ps ≡ 0 → stands_fit g ps vs ≡ false
      by [] d = refl
      by (p ∷ ps) d = absurd (omega arith)

  module _ (some : 0 < length places) where
    above : List ℕ
    above = drop 1 places

    split : places ≡ get_or places 0 0 ∷ above
    unfolding above
    split = drop-cons places 0 0 some

    pub bottom_other : (get_or places 0 0 ≡ 32769 → ⊥) → (get_or places 0 0 ≡ segment_place → ⊥) → stands_fit g places vs ≡ false
    unfolding stands_fit
    bottom_other m n = ap (λ ps. stands_fit g ps vs) split ∙ rw (ne_eqb (get_or places 0 0) segment_place n, ne_eqb (get_or places 0 0) 32769 m) refl

    pub bottom_waits : {n r : ℕ} {b : Bool} → get_or places 0 0 ≡ segment_place → n ≡ get_or ws 4 0 → Passes vs (replicate n marked) 0 r → b ≡ stands g (nonterminal g.start) (drop 1 places) vs r → b ≡ stands_fit g places vs
    unfolding stands_fit above
    bottom_waits {n} {r} {b} e d p q =
        let k : n ≡ syn g (nonterminal g.start) = d ∙ start_count s in
        let t : fits_from vs r (cells_above g (drop 1 places)) ≡ cells_fit (replicate n marked ++ cells_above g (drop 1 places)) vs = sym (p.same (cells_above g (drop 1 places))) ∙ sym (from_start vs (replicate n marked ++ cells_above g (drop 1 places))) in
        q ∙ (ap (λ t. places_above g (nonterminal g.start) (drop 1 places) && t) (rw k at t) ∙ sym (ap (λ ps. stands_fit g ps vs) split ∙ rw e (or-false _)))

    pub bottom_left : {n r : ℕ} → get_or places 0 0 ≡ 32769 → length places ≡ 1 → n ≡ get_or ws 4 0 → Passes vs (replicate n valued) 0 r → eqb r (length vs) ≡ stands_fit g places vs
    unfolding stands_fit above
    bottom_left {n} {r} e l d p =
        let k : n ≡ syn g (nonterminal g.start) = d ∙ start_count s in
        let t : eqb r (length vs) ≡ cells_fit (replicate n valued) vs = sym (from_end vs r) ∙ (sym (p.same []) ∙ (sym (from_start vs (replicate n valued ++ [])) ∙ ap (λ cs. cells_fit cs vs) (append-nil (replicate n valued)))) in
        rw k at t ∙ sym (ap (λ ps. stands_fit g ps vs) split ∙ rw (e, drop_of_length-le places {i = 1} (omega arith)) refl)

    pub bottom_many : get_or places 0 0 ≡ 32769 → (length places ≡ 1 → ⊥) → stands_fit g places vs ≡ false
    unfolding stands_fit above
    bottom_many e l = ap (λ ps. stands_fit g ps vs) split ∙ rw (e, drop-cons places 1 0 (omega arith)) refl
