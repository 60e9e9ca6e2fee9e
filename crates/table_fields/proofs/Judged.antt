-- The faults of tags 1 to 3 and 6 are those that 01's table gives.
use Prim.Native.Nat.{ℕ, ◌+◌, ◌-◌, ◌≤◌, ◌<◌}
use mathlib.Core.Path.{◌≡◌, refl, sym, ◌∙◌, ap, ap₂}
use mathlib.Core.Bool.{Bool, true, false, ◌&&◌, ◌||◌, not, cond}
use mathlib.Core.List.{List, [], ◌∷◌}
use lib.Dec.{eqb, leb, ltb}
use lib.ListN.{length, drop}
use native.Mathlib.Omega.{arith}
use borrow.Author.Tests.{lt-ltb, le-ltb, le-leb, ne_eqb}
use Rattle.meaning.specs.Limits.{attributes_limit, nonterminals_limit, productions_limit, symbols_limit, terminals_limit}
use Rattle.meaning.specs.Base.{all}
use Rattle.meaning.specs.Grammar.{Counts, terminal, nonterminal, nonterminal_base}
use Rattle.meaning.specs.Table as Table
use Rattle.meaning.specs.Table.{byte, State, Entry, Header, Kind, production, Stage, at_counts, at_first, at_any, stage, tag_stands, kind_of, lowest_of, judge_field, nothing_read, limits_hold, known, start_right, directions_right, set_once, left_to_right, bounds_right, symbol_of, rises}
use Rattle.table_fields.specs.Demand.{holds, equal, at_most, below, if_equal, if_below}
use Rattle.table_fields.specs.Judge.{header_fault, counts_fault, production_fault, least_after, carrier_fault, symbol_known, symbols_known, all_from}
use Rattle.table_fields.specs.Reads.{state_of}
use Rattle.table_fields.proofs.Rest.{field_of}

-- the lowest number of a field whose tag may stand
abbrev pub lowest : State → Kind → List ℕ → ℕ
lowest s k b =
    lowest_of
    ((limits_hold s k b, 4) ∷ (known s k b, 5) ∷ (start_right s k b, 6) ∷ (directions_right s k b, 7) ∷ (set_once s k b, 8) ∷ (left_to_right s k b, 9) ∷ (bounds_right s k b, 10) ∷ [])

abbrev by_tag : Bool → ℕ → ℕ
by_tag b n = elim b [ false ↦ 3 | true ↦ n ]

module _ (s : State) (at tag : ℕ) (b : List ℕ) where
  pub judge_stands : tag_stands (stage s) tag ≡ true → judge_field s (field_of at tag b) ≡ lowest s (kind_of tag) b
  judge_stands e = ap (λ x. by_tag x (lowest s (kind_of tag) b)) e

  pub judge_not : tag_stands (stage s) tag ≡ false → judge_field s (field_of at tag b) ≡ 3
  judge_not e = ap (λ x. by_tag x (lowest s (kind_of tag) b)) e

-- ---- the header

header_by :
    (p q r t u v : Bool)
    → lowest_of ((p && (q && r) && (t && u), 4) ∷ (v, 5) ∷ (true, 6) ∷ (true, 7) ∷ (true, 8) ∷ (true, 9) ∷ (true, 10) ∷ [])
    ≡ cond p (cond q (cond r (cond t (cond u (cond v 0 5) 4) 4) 4) 4) 4
header_by false q r t u v = refl
header_by true false r t u v = refl
header_by true true false t u v = refl
header_by true true true false u v = refl
header_by true true true true false v = refl
header_by true true true true true false = refl
header_by true true true true true true = refl

pub header_judged : (at : ℕ) (b : List ℕ) → judge_field nothing_read (field_of at 1 b) ≡ header_fault b
unfolding header_fault equal at_most below
header_judged at b = header_by (eqb (length b) 4) (leb 1 (byte b 0)) (leb (byte b 0) terminals_limit) (leb 1 (byte b 1)) (leb (byte b 1) nonterminals_limit) (ltb (byte b 2) (byte b 1))

pub header_not : (at tag : ℕ) (b : List ℕ) → (tag ≡ 1 → ⊥) → judge_field nothing_read (field_of at tag b) ≡ 3
header_not at tag b h = judge_not nothing_read at tag b (ne_eqb tag 1 h)

-- ---- the stages after it

module _ (h : Header) (cs : List Counts) (os ws : List ℕ) (es : List Entry) (r c : ℕ) where
  abbrev s : State
  s = state_of h cs os ws es r c

  abbrev by_stage : Bool → Bool → Stage
  by_stage x y = elim x [ true ↦ at_counts | false ↦ elim y [ true ↦ at_any | false ↦ at_first ] ]

  pub stage_counts : length cs < h.nonterminals → stage s ≡ at_counts
  stage_counts l = ap (λ x. by_stage x (ltb 0 (length es))) (lt-ltb _ _ l)

  pub stage_later : h.nonterminals ≤ length cs → stage s ≡ by_stage false (ltb 0 (length es))
  stage_later l = ap (λ x. by_stage x (ltb 0 (length es))) (le-ltb _ _ l)

-- ---- counts

counts_by :
    (p q r t u v : Bool)
    → lowest_of ((p && q, 4) ∷ (true, 5) ∷ (not r || (t && (u && v)), 6) ∷ (true, 7) ∷ (true, 8) ∷ (true, 9) ∷ (true, 10) ∷ [])
    ≡ cond p (cond q (cond r (cond t (cond u (cond v 0 6) 6) 6) 0) 4) 4
counts_by false q r t u v = refl
counts_by true false r t u v = refl
counts_by true true false t u v = refl
counts_by true true true false u v = refl
counts_by true true true true false v = refl
counts_by true true true true true false = refl
counts_by true true true true true true = refl

module _ (h : Header) (cs : List Counts) (os : List ℕ) (at : ℕ) (b : List ℕ) where
  pub counts_judged :
      length cs < h.nonterminals
      → judge_field (state_of h cs os [] [] 0 0) (field_of at 2 b) ≡ counts_fault (length cs) h.start h.result b
  unfolding counts_fault equal at_most if_equal
  counts_judged l =
      judge_stands (state_of h cs os [] [] 0 0) at 2 b (ap (λ x. tag_stands x 2) (stage_counts h cs os [] [] 0 0 l))
      ∙ counts_by (eqb (length b) 2) (leb (byte b 0 + byte b 1) attributes_limit) (eqb (length cs) h.start) (eqb (byte b 0) 0) (leb 1 h.result) (leb h.result (byte b 1))

  pub counts_not :
      (tag : ℕ) → length cs < h.nonterminals → (tag ≡ 2 → ⊥)
      → judge_field (state_of h cs os [] [] 0 0) (field_of at tag b) ≡ 3
  counts_not tag l n = judge_not (state_of h cs os [] [] 0 0) at tag b (ap (λ x. tag_stands x tag) (stage_counts h cs os [] [] 0 0 l) ∙ ne_eqb tag 2 n)

-- ---- productions

production_by :
    (p q r t u v : Bool)
    → lowest_of ((p && q && r && t, 4) ∷ (u && v, 5) ∷ (true, 6) ∷ (true, 7) ∷ (true, 8) ∷ (true, 9) ∷ (true, 10) ∷ [])
    ≡ cond p (cond q (cond r (cond t (cond u (cond v 0 5) 5) 4) 4) 4) 4
production_by false q r t u v = refl
production_by true false r t u v = refl
production_by true true false t u v = refl
production_by true true true false u v = refl
production_by true true true true false v = refl
production_by true true true true true false = refl
production_by true true true true true true = refl

module _ (h : Header) (cs : List Counts) (os ws : List ℕ) (es : List Entry) (r c at : ℕ) (b : List ℕ) where
  abbrev before : State
  before = state_of h cs os ws es r c

  known_by : (x : Bool) (n : ℕ) → Table.symbol_known before (elim x [ true ↦ terminal n | false ↦ nonterminal (n - nonterminal_base) ]) ≡ cond x (ltb n h.terminals) (ltb (n - nonterminal_base) h.nonterminals)
  known_by true n = refl
  known_by false n = refl

  pub symbol_same : (n : ℕ) → Table.symbol_known before (symbol_of n) ≡ symbol_known h.terminals h.nonterminals n
  unfolding symbol_known if_below
  symbol_same n = known_by (ltb n nonterminal_base) n

  all_same : (ns : List ℕ) → all (λ n. Table.symbol_known before (symbol_of n)) ns ≡ all (symbol_known h.terminals h.nonterminals) ns
  all_same [] = refl
  all_same (n ∷ ns) = ap₂ ◌&&◌ (symbol_same n) (all_same ns)

  pub symbols_same : all (λ n. Table.symbol_known before (symbol_of n)) (drop 2 b) ≡ symbols_known h.terminals h.nonterminals b 2
  unfolding all_from
  symbols_same = all_same (drop 2 b)

  any_three : (x : Bool) → tag_stands (by_stage h cs os ws es r c false x) 3 ≡ true
  any_three true = refl
  any_three false = refl

  pub production_judged :
      h.nonterminals ≤ length cs
      → judge_field before (field_of at 3 b) ≡ production_fault h.terminals h.nonterminals (length es) b
  unfolding production_fault equal at_most below holds
  production_judged l =
      judge_stands before at 3 b (ap (λ x. tag_stands x 3) (stage_later h cs os ws es r c l) ∙ any_three (ltb 0 (length es)))
      ∙ ap
      (λ y. lowest_of ((limits_hold before production b, 4) ∷ (ltb (byte b 0) h.nonterminals && y, 5) ∷ (true, 6) ∷ (true, 7) ∷ (true, 8) ∷ (true, 9) ∷ (true, 10) ∷ []))
      symbols_same
      ∙ production_by (leb 2 (length b)) (leb (byte b 1) symbols_limit) (eqb (length b) (2 + byte b 1)) (ltb (length es) productions_limit) (ltb (byte b 0) h.nonterminals) (symbols_known h.terminals h.nonterminals b 2)

  pub first_not :
      (tag : ℕ) → h.nonterminals ≤ length cs → es ≡ [] → (tag ≡ 3 → ⊥) → (tag ≡ 6 → ⊥)
      → judge_field before (field_of at tag b) ≡ 3
  first_not tag l e n m =
      judge_not before at tag b
      (ap (λ x. tag_stands x tag) (stage_later h cs os ws es r c l ∙ ap (λ (l : List Entry). by_stage h cs os ws es r c false (ltb 0 (length l))) e)
      ∙ ap₂ ◌||◌ (ne_eqb tag 3 n) (ne_eqb tag 6 m))

-- ---- terminals that carry a value

-- the least number that rises
least_rises : (ws : List ℕ) (t : ℕ) → rises ws t ≡ leb (least_after ws) t
least_rises [] t = sym (le-leb 0 t (omega arith))
least_rises (u ∷ us) t = refl

carrier_by :
    (p q r : Bool)
    → lowest_of ((p, 4) ∷ (q && r, 5) ∷ (true, 6) ∷ (true, 7) ∷ (true, 8) ∷ (true, 9) ∷ (true, 10) ∷ [])
    ≡ cond p (cond q (cond r 0 5) 5) 4
carrier_by false q r = refl
carrier_by true false r = refl
carrier_by true true false = refl
carrier_by true true true = refl

module _ (h : Header) (cs : List Counts) (os ws : List ℕ) (at : ℕ) (b : List ℕ) where
  pub carrier_judged :
      h.nonterminals ≤ length cs
      → judge_field (state_of h cs os ws [] 0 0) (field_of at 6 b) ≡ carrier_fault h.terminals (least_after ws) b
  unfolding carrier_fault equal at_most below
  carrier_judged l =
      judge_stands (state_of h cs os ws [] 0 0) at 6 b (ap (λ x. tag_stands x 6) (stage_later h cs os ws [] 0 0 l))
      ∙ carrier_by (eqb (length b) 1) (ltb (byte b 0) h.terminals) (rises ws (byte b 0))
      ∙ ap (λ x. cond (eqb (length b) 1) (cond (ltb (byte b 0) h.terminals) (cond x 0 5) 5) 4) (least_rises ws (byte b 0))
