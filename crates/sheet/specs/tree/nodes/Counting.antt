-- How many attributes the left side of a node in progress has: the program tells it of the place below, which waits at that symbol.
use Rattle.std.specs.Prelude.{ℕ, suc, ◌+◌, ◌-◌, ◌*◌, ◌≤◌, ◌<◌, ◌≡◌, ◌⊎◌, List, [], ◌∷◌, map, length, get_or, drop, ℤ}
use Rattle.std.proofs.Common.{arith, sym, ap, ◌∙◌, subst, inl, inr}
use Rattle.std.proofs.lemmas.List.{length-map}
use Rattle.meaning.specs.Limits.{symbols_limit}
use Rattle.meaning.specs.Grammar.{Grammar, Leaf, Symbol, terminal, nonterminal, inh, syn, att, marked_for, production_at, symbol_at, whole, place_production, place_passed, segment_place}
use Rattle.meaning.specs.Machine.{Config, Lent, place_of}
use Rattle.meaning.specs.Part.{Open, Ancestor, Stands}
use Rattle.theory_base.specs.Values.{drop_head}
use Rattle.theory_base.specs.Frames.{place_waits_lem}
use Rattle.theory_base.specs.WellFormed.{well_formed_at}
use Rattle.theory_program.specs.Parts.{wait_marked, wait_inherited}
use Rattle.theory_program.specs.WordsStand.{stands_within}
use Rattle.theory_program.specs.Addresses.{wait_address, wait_row_at, wait_row_length}
use Rattle.theory_program.specs.Records.{segment_words_lem}
use Rattle.theory_program.specs.Waits as Waits
use Rattle.theory_sheet.specs.NodeInProgress.{Stand, stand_frames}
use Rattle.run_moves.specs.declared.Run.{Run}
use Rattle.run_moves.specs.Laid.{laid_read}
use Rattle.run_moves.specs.Held.{Held}
use Rattle.sheet.specs.declared.tree.nodes.Counts.{Counts}

abbrev pub left_of : Grammar → Open → Symbol
left_of g o = nonterminal (production_at g o.production).left

-- what the code relies on: some configuration is held that shows a node in progress on another
pub record Nested (ws ps : List ℕ) (run : Run) : Type 0 where
  pub grammar : Grammar
  pub lent : Lent
  pub tokens : List Leaf
  pub registers : List ℤ
  pub config : Config
  pub node : Open
  pub parent : Ancestor
  pub below : List Ancestor
  pub held : Held grammar ws lent registers ps run config
  pub stand : Stand grammar tokens node (parent ∷ below) config

abbrev pub Counted : List ℕ → List ℕ → Run → Counts → Type 0
Counted ws ps run r = (g : Grammar) (lent : Lent) (tokens : List Leaf) (m : List ℤ) (c : Config) (o : Open) (b : Ancestor) (bs : List Ancestor) → Held g ws lent m ps run c → Stand g tokens o (b ∷ bs) c
    → (r.inherited ≡ inh g (left_of g o)) × (r.total ≡ att g (left_of g o))

module _ {g : Grammar} {ws : List ℕ} {lent : Lent} {tokens : List Leaf} {m : List ℤ} {ps : List ℕ} {run : Run} {c : Config} {o : Open} {b : Ancestor} {bs : List Ancestor} (h : Held g ws lent m ps run c) (s : Stand g tokens o (b ∷ bs) c) where
  pub two_places_lem : 2 ≤ run.places
  two_places_lem = omega (arith, stand_frames s, h.places.height, length-map c.frames (place_of g))

  waits_at : drop (length b.node.children) (production_at g b.node.production).right ≡ b.symbol ∷ b.ahead
  waits_at = s.good.stands.2.1.0

  symbol_is : symbol_at (production_at g b.node.production) (suc (length b.node.children)) ≡ left_of g o
  symbol_is = (drop_head (length b.node.children) (production_at g b.node.production).right b.symbol (terminal 0) b.ahead waits_at).1 ∙ s.good.stands.1

  few_passed : length b.node.children < length (production_at g b.node.production).right
  few_passed = (drop_head (length b.node.children) (production_at g b.node.production).right b.symbol (terminal 0) b.ahead waits_at).0

  abbrev place : ℕ
  place = get_or ps (run.places - 2) 0

  place_is : place ≡ b.node.production * 256 + length b.node.children
  place_is =
      laid_read h.places 2 (omega arith) two_places_lem
      ∙ (ap (λ fs. get_or (map (place_of g) fs) 1 0) (sym s.frames)
      ∙ place_waits_lem g b.node.production (length b.node.children) b.symbol b.ahead waits_at)

  parent_is : ((b.node.production ≡ whole) × (place ≡ segment_place)) ⊎ ((b.node.production < length g.productions) × (place < segment_place))
  parent_is = go bs s.good.stands.3
    where
      go : (bs : List Ancestor) → Stands g b.node.production b.node.inherited bs → ((b.node.production ≡ whole) × (place ≡ segment_place)) ⊎ ((b.node.production < length g.productions) × (place < segment_place))
      go [] t =
          let one : length (production_at g b.node.production).right ≡ 1 = ap (λ p. length (production_at g p).right) t.0 in
          inl (t.0, omega (arith, place_is, few_passed, one, t.0))
      go (a ∷ as') t = inr (t.0, omega (arith, place_is, few_passed, t.0, h.well_formed.productions.1, (well_formed_at g h.well_formed b.node.production t.0).short))

  -- on the whole segment
  pub segment_counts : place ≡ segment_place → (0 ≡ inh g (left_of g o)) × (get_or ws 4 0 ≡ att g (left_of g o))
  segment_counts e = go parent_is
    where
      go : ((b.node.production ≡ whole) × (place ≡ segment_place)) ⊎ ((b.node.production < length g.productions) × (place < segment_place)) → (0 ≡ inh g (left_of g o)) × (get_or ws 4 0 ≡ att g (left_of g o))
      go (inr p) = absurd (omega (arith, e, p.1))
      go (inl p) =
          let none : length b.node.children ≡ 0 = omega (arith, few_passed, ap (λ q. length (production_at g q).right) p.0) in
          let x : nonterminal g.start ≡ left_of g o = sym (ap (λ q. symbol_at (production_at g q) 1) p.0) ∙ (ap (λ k. symbol_at (production_at g b.node.production) (suc k)) (sym none) ∙ symbol_is) in
          let z : inh g (left_of g o) ≡ 0 = ap (inh g) (sym x) ∙ h.well_formed.start_alone in
          (sym z, (segment_words_lem h.begins).registers ∙ (ap (syn g) x ∙ omega (arith, z)))

  -- on another node
  module _ (e : place ≡ segment_place → ⊥) where
    abbrev address : ℕ
    address = get_or ws 2 0 + 8 * get_or ws 6 0 + symbols_limit * place_production place + place_passed place

    listed : b.node.production < length g.productions
    listed = go parent_is
      where
        go : ((b.node.production ≡ whole) × (place ≡ segment_place)) ⊎ ((b.node.production < length g.productions) × (place < segment_place)) → b.node.production < length g.productions
        go (inl p) = absurd (e p.1)
        go (inr p) = p.0

    address_is : address ≡ wait_address g b.node.production + length b.node.children
    address_is =
        let f = well_formed_at g h.well_formed b.node.production listed in
        let q : place_production place ≡ b.node.production = omega (arith, place_is, few_passed, f.short) in
        let k : place_passed place ≡ length b.node.children = omega (arith, place_is, few_passed, f.short) in
        omega (arith, q, k, (segment_words_lem h.begins).records, (segment_words_lem h.begins).productions)

    pub address_inside : address < length ws
    address_inside =
        let f = well_formed_at g h.well_formed b.node.production listed in
        omega (arith, address_is, stands_within (wait_row_at h.begins h.well_formed b.node.production listed), wait_row_length g (production_at g b.node.production) f.short, few_passed, f.short)

    pub word_counts : (v : ℕ) → v ≡ get_or ws address 0 → (wait_inherited v ≡ inh g (left_of g o)) × (wait_inherited v + wait_marked v ≡ att g (left_of g o))
    word_counts v z =
        let w = subst (Waits.Waits g (production_at g b.node.production) (length b.node.children)) (sym (z ∙ ap (λ a. get_or ws a 0) address_is)) (Waits.place_waits_lem h.begins h.well_formed b.node.production listed (length b.node.children) few_passed) in
        let i : wait_inherited v ≡ inh g (left_of g o) = w.inherited ∙ ap (inh g) symbol_is in
        (i, omega (arith, i, w.marked ∙ ap (marked_for g) symbol_is))
