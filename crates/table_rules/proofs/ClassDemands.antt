-- The classes of occurrences, and the demands on a rule and a condition by them.
use Prim.Native.Nat.{ℕ, zero, suc, ◌+◌, ◌≤◌, ◌<◌}
use mathlib.Core.Path.{◌≡◌, refl, sym, ◌∙◌, ap, ap₂}
use mathlib.Core.Bool.{Bool, true, false, ◌&&◌, ◌||◌, not, cond}
use mathlib.Core.List.{List, [], ◌∷◌, reverse}
use native.Mathlib.Omega.{arith}
use lib.Dec.{eqb, leb, ltb}
use lib.ListN.{get_or, length}
use borrow.Author.Tests.{leb-true, leb-false, le-leb, lt-leb, le-ltb, lt-ltb}
use Rattle.meaning.specs.Grammar.{Symbol, Occurrence, Rule, Condition, Counts, counts_in}
use Rattle.meaning.specs.Table.{State, Entry, Header, entry_symbol, counts_at, occurrence_known, is_input, lowest_of}
use Rattle.table_fields.specs.Demand.{if_equal, if_below, differs}
use Rattle.table_fields.specs.Reads.{state_of, entry_of}
use Rattle.table_rules.specs.Rule.{class_at, class_fault, or_else}
use Rattle.table_rules.specs.Note.{symbol_in, Placed, occurrence}
use Rattle.table_fields.proofs.Cases.{nonzero}

-- known, an input, class
pub data Classed : Bool → Bool → ℕ → Type 0 where
  unknown : {i : Bool} → Classed false i 0
  input : Classed true true 1
  output : Classed true false 2

below_not_least : (a b : ℕ) → ltb a b ≡ not (leb b a)
below_not_least a b = go (leb b a) refl
  where
    go : (x : Bool) → leb b a ≡ x → ltb a b ≡ not x
    go true e = le-ltb a b (leb-true b a e)
    go false e = lt-ltb a b (leb-false b a e)

class_by :
    (q r z u : Bool)
    → Classed (q && r) (cond z u (not u)) (cond (not q) 0 (cond (not r) 0 (cond z (cond (not u) 2 1) (cond (not u) 1 2))))
class_by false r z u = unknown
class_by true false z u = unknown
class_by true true true true = input
class_by true true true false = output
class_by true true false true = output
class_by true true false false = input

module _ (h : Header) (cs : List Counts) (os ws : List ℕ) (es : List Entry) (r c o l : ℕ) (xs : List Symbol) (rs : List (Rule Occurrence)) (cds : List (Condition Occurrence)) where
  abbrev pub entry : Entry
  entry = entry_of o l xs rs cds

  abbrev pub state : State
  state = state_of h cs os ws (entry ∷ es) r c

  pub symbol_in_lem : (k : ℕ) → entry_symbol entry k ≡ symbol_in l xs k
  symbol_in_lem zero = refl
  symbol_in_lem (suc k) = refl

  module _ (width : ℕ) (inh syn : List ℕ) (pl : Placed cs ws l xs width inh syn) where
    pub inherited_in_lem : (k : ℕ) → k ≤ width → (counts_at state (entry_symbol entry k)).inherited ≡ get_or inh k 0
    inherited_in_lem k w = ap (λ x. (counts_in (reverse cs) (reverse ws) x).inherited) (symbol_in_lem k) ∙ sym (pl.inherits k w)

    pub synthesized_in_lem : (k : ℕ) → k ≤ width → (counts_at state (entry_symbol entry k)).synthesized ≡ get_or syn k 0
    synthesized_in_lem k w = ap (λ x. (counts_in (reverse cs) (reverse ws) x).synthesized) (symbol_in_lem k) ∙ sym (pl.synthesizes k w)

    module _ (k a : ℕ) where
      abbrev i : ℕ
      i = (counts_at state (entry_symbol entry k)).inherited

      abbrev n : ℕ
      n = i + (counts_at state (entry_symbol entry k)).synthesized

      -- 01's test and the code's, with the same counts
      class_inside : k ≤ width → get_or inh k 0 ≡ i → get_or inh k 0 + get_or syn k 0 ≡ n → Classed (occurrence_known state entry (occurrence k a)) (is_input state entry (occurrence k a)) (class_at width inh syn k a)
      unfolding class_at if_below if_equal
      class_inside w e f =
          let here : leb k (length xs) ≡ true = le-leb k (length xs) (omega (arith, pl.wide)) in
          let first : ltb width k ≡ false = le-ltb width k w in
          rw (here, first, f, e, below_not_least a 1, below_not_least n a, below_not_least i a) (class_by (leb 1 a) (leb a n) (eqb k 0) (leb a i))

      class_outside : width < k → Classed (occurrence_known state entry (occurrence k a)) (is_input state entry (occurrence k a)) (class_at width inh syn k a)
      unfolding class_at if_below
      class_outside w =
          let here : leb k (length xs) ≡ false = lt-leb k (length xs) (omega (arith, pl.wide)) in
          rw (here, lt-ltb width k w) unknown

      pub classed : Classed (occurrence_known state entry (occurrence k a)) (is_input state entry (occurrence k a)) (class_at width inh syn k a)
      classed = go (leb k width) refl
        where
          go : (b : Bool) → leb k width ≡ b → Classed (occurrence_known state entry (occurrence k a)) (is_input state entry (occurrence k a)) (class_at width inh syn k a)
          go true e = let w = leb-true k width e in class_inside w (sym (inherited_in_lem k w)) (sym (ap₂ ◌+◌ (inherited_in_lem k w) (synthesized_in_lem k w)))
          go false e = class_outside (leb-false k width e)

-- ---- the demands on a rule by the classes of its target and two operands

-- 8 and 9: n is "noted", z "at position 0", x and y "below the target's position"
abbrev order : Bool → Bool → Bool → Bool → ℕ
order n z x y = cond n 8 (cond z 0 (cond x (cond y 0 9) 9))

order_by :
    (n z x y : Bool)
    → lowest_of ((not n, 8) ∷ (z || (x && y), 9) ∷ (true, 10) ∷ []) ≡ order n z x y
order_by true z x y = refl
order_by false true x y = refl
order_by false false false y = refl
order_by false false true false = refl
order_by false false true true = refl

order_same :
    (n n' z x x' y y' : Bool) → n ≡ n' → (z ≡ false → x ≡ x') → (z ≡ false → y ≡ y')
    → lowest_of ((not n, 8) ∷ (z || (x && y), 9) ∷ (true, 10) ∷ []) ≡ order n' z x' y'
order_same n n' true x x' y y' e f g = order_by n true x y ∙ ap (λ m. cond m 8 0) e
order_same n n' false x x' y y' e f g = order_by n false x y ∙ cc (f refl, g refl)

module _ (n n' z x x' y y' : Bool) (f : z ≡ false → x ≡ x') (g : z ≡ false → y ≡ y') where
  pub uses_by :
      {kt it : Bool} {t : ℕ} {ka ia : Bool} {a : ℕ} {kb ib : Bool} {b : ℕ}
      → Classed kt it t → Classed ka ia a → Classed kb ib b → ((t ≡ 0 → ⊥) → n ≡ n')
      → lowest_of ((kt && (ka && kb), 5) ∷ (true, 6) ∷ (not it && (ia && ib), 7) ∷ (not n, 8) ∷ (z || (x && y), 9) ∷ (true, 10) ∷ [])
      ≡ or_else (class_fault t a b) (order n' z x' y')
  unfolding or_else class_fault differs if_equal
  uses_by unknown ca cb e = refl
  uses_by input unknown cb e = refl
  uses_by input input unknown e = refl
  uses_by input input input e = refl
  uses_by input input output e = refl
  uses_by input output unknown e = refl
  uses_by input output input e = refl
  uses_by input output output e = refl
  uses_by output unknown cb e = refl
  uses_by output input unknown e = refl
  uses_by output input output e = refl
  uses_by output output unknown e = refl
  uses_by output output input e = refl
  uses_by output output output e = refl
  uses_by output input input e = order_same n n' z x x' y y' (e (nonzero 1)) f g
