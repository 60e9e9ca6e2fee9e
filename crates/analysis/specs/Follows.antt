-- FOLLOW over the rows: from the rest of a right side, and from what comes after the left side where the rest derives nothing.
use Rattle.std.specs.Prelude.{ℕ, ◌+◌, ◌-◌, ◌^◌, ◌≤◌, ◌<◌, ◌≡◌, refl, Bool, true, false, cond, ◌&&◌, ◌||◌, List, [], ◌∷◌, T, ltb, get_or, length, drop, replicate}
use Rattle.std.proofs.Common.{zero-le, arith, sym, ap, ◌∙◌, ⊎_elim, lit<, ltb→lt, lt→ltb}
use Rattle.std.proofs.Math.Decide.{dec_lt}
use Rattle.std.proofs.Math.Bool.{or-false}
use Rattle.std.specs.Int.Bits.{bit_or}
use Rattle.meaning.specs.Limits.{nonterminals_limit}
use Rattle.meaning.specs.Base.{all}
use Rattle.meaning.specs.Grammar.{Symbol, terminal, nonterminal, nonterminal_base}
use Rattle.meaning.specs.Sets.{has, singleton, end_number}
use Rattle.meaning.specs.Table.{symbol_of}
use Rattle.token_set.specs.SetBits.{set_of, set_end}
use Rattle.theory_sets.specs.TokenSets.{single_has, single_only}
use Rattle.outline.specs.Images.{Image, left_at, size_at, byte_at, right_at, right_back, right_end, symbol_terminal, symbol_nonterminal}
use Rattle.set_words.specs.Views.{members, sees, Inside, fit, turn, opens, Below}
use Rattle.set_words.specs.Growth.{or_is, none_in}
use Rattle.analysis.specs.Tables.{Added, Short, zeros_none}
use Rattle.analysis.specs.Spreading.{Spread}

-- from place i of production p on
pub record BaseFrom (gone : ℕ → Bool) (first rows : List ℕ) (u p i : ℕ) (see : ℕ → Bool) : Type 0 where
  pub at : (j n : ℕ) (rest : List Symbol) → i ≤ j → drop j (right_at rows p) ≡ nonterminal n ∷ rest → T (opens true gone (sees first u) u false rest) → T (see n)

pub record TailFrom (gone : ℕ → Bool) (rows : List ℕ) (p i : ℕ) (see : ℕ → Bool) : Type 0 where
  pub at : (j n : ℕ) (rest : List Symbol) → i ≤ j → drop j (right_at rows p) ≡ nonterminal n ∷ rest → T (all (fit false gone) rest) → T (see (left_at rows p)) → T (see n)

-- the productions before k
pub record BasesTo (gone : ℕ → Bool) (first rows : List ℕ) (k u : ℕ) (see : ℕ → Bool) : Type 0 where
  pub base : (p : ℕ) → p < k → BaseFrom gone first rows u p 0 see

pub record TailsTo (gone : ℕ → Bool) (rows : List ℕ) (k : ℕ) (see : ℕ → Bool) : Type 0 where
  pub tail : (p : ℕ) → p < k → TailFrom gone rows p 0 see

pub record FollowClosed (gone : ℕ → Bool) (first rows : List ℕ) (count u : ℕ) (see : ℕ → Bool) : Type 0 where
  pub bases : BasesTo gone first rows count u see
  pub tails : TailsTo gone rows count see

-- a table filled once, with what then holds of it
pub record Filled (C P : ℕ → (ℕ → Bool) → Type 0) (s r : List ℕ) : Type 0 where
  pub size : length r ≡ length s
  pub keeps : (u : ℕ) → Inside (sees s u) (sees r u)
  pub sound : (u : ℕ) (see : ℕ → Bool) → C u see → Inside (sees s u) see → Inside (sees r u) see
  pub holds : (u : ℕ) → P u (sees r u)

module _ {C P : ℕ → (ℕ → Bool) → Type 0} (s : List ℕ) where
  pub filled_none : ((u : ℕ) → P u (sees s u)) → Filled C P s s
  filled_none p = record { size = refl; keeps = λ u n t. t; sound = λ u see c k. k; holds = p }

module _ {C P Q R : ℕ → (ℕ → Bool) → Type 0} (s r q : List ℕ) where
  pub filled_then : Filled C P s r → Filled C Q r q → ((u : ℕ) → Inside (sees r u) (sees q u) → P u (sees r u) → Q u (sees q u) → R u (sees q u)) → Filled C R s q
  filled_then a b joins =
      record {
        size = b.size ∙ a.size;
        keeps = λ u n t. b.keeps u n (a.keeps u n t);
        sound = λ u see c k. b.sound u see c (a.sound u see c k);
        holds = λ u. joins u (b.keeps u) (a.holds u) (b.holds u);
      }

-- the set of symbol x has got what `add` has
pub record Gets (x : Symbol) (add u : ℕ) (see : ℕ → Bool) : Type 0 where
  pub got : (n : ℕ) → x ≡ nonterminal n → T (members add u) → T (see n)

pub filled_join : {C : ℕ → (ℕ → Bool) → Type 0} (s r : List ℕ) (x : Symbol) (add : ℕ) → Added s x add r
    → ((u : ℕ) (see : ℕ → Bool) → C u see → T (members add u) → (n : ℕ) → x ≡ nonterminal n → T (see n)) → Filled C (Gets x add) s r
filled_join s r x add j fine =
    record {
      size = j.size;
      keeps = j.keeps;
      sound = λ u see k i n t. ⊎_elim (i n) (λ w. fine u see k w.1 n w.0) (j.only u n t);
      holds = λ u. record { got = λ n e t. j.adds n e u t };
    }

-- what the rest of a right side begins with
pub record Rest (gone : ℕ → Bool) (first rows : List ℕ) (k i rest : ℕ) : Type 0 where
  pub is : (u : ℕ) → members rest u ≡ opens true gone (sees first u) u false (drop i (right_at rows k))

module _ (gone : ℕ → Bool) (first : List ℕ) {rows : List ℕ} {count : ℕ} (image : Image rows count) (k : ℕ) (lt : k < count) where
  pub rest_start : Rest gone first rows k (size_at rows k) 0
  rest_start = record { is = λ u. none_in u ∙ sym (ap (opens true gone (sees first u) u false) (right_end image k lt (size_at rows k) (omega arith))) }

  module _ (i : ℕ) (more : 0 < i) (upto : i ≤ size_at rows k) where
    pub rest_step : (rest r : ℕ) → Rest gone first rows k i rest → ((u : ℕ) → members r u ≡ turn true gone (sees first u) u (symbol_of (byte_at rows k (i - 1))) (members rest u)) → Rest gone first rows k (i - 1) r
    rest_step rest r a e = record { is = λ u. e u ∙ ap (turn true gone (sees first u) u (symbol_of (byte_at rows k (i - 1)))) (a.is u) ∙ sym (ap (opens true gone (sees first u) u false) (right_back image k lt i more upto)) }

    pub base_fine : (rest : ℕ) → Rest gone first rows k i rest → (u : ℕ) (see : ℕ → Bool) → FollowClosed gone first rows count u see → T (members rest u) → (n : ℕ) → symbol_of (byte_at rows k (i - 1)) ≡ nonterminal n → T (see n)
    base_fine rest a u see c t n e = (c.bases.base k lt).at (i - 1) n (drop i (right_at rows k)) zero-le (right_back image k lt i more upto ∙ ap (λ (x : Symbol). x ∷ drop i (right_at rows k)) e) (rw (a.is u) at t)

    pub base_more : (rest : ℕ) → Rest gone first rows k i rest → (u : ℕ) (f h : ℕ → Bool) → Inside f h → BaseFrom gone first rows u k i f → Gets (symbol_of (byte_at rows k (i - 1))) rest u h → BaseFrom gone first rows u k (i - 1) h
    base_more rest a u f h sub b g = record { at = λ j n xs l e t. go j n xs l e t (dec_lt j i) }
      where
        go : (j n : ℕ) (xs : List Symbol) → i - 1 ≤ j → drop j (right_at rows k) ≡ nonterminal n ∷ xs → T (opens true gone (sees first u) u false xs) → Dec (j < i) → T (h n)
        go j n xs l e t (no m) = sub n (b.at j n xs (omega arith) e t)
        go j n xs l e t (yes m) =
            let q : j ≡ i - 1 = omega arith in
            let d : symbol_of (byte_at rows k (i - 1)) ∷ drop i (right_at rows k) ≡ nonterminal n ∷ xs = sym (right_back image k lt i more upto) ∙ ap (λ (y : ℕ). drop y (right_at rows k)) (sym q) ∙ e in
            let x : symbol_of (byte_at rows k (i - 1)) ≡ nonterminal n = cc in
            let y : xs ≡ drop i (right_at rows k) = cc in
            g.got n x (rw (a.is u) (rw y at t))

-- nothing behind the end
pub base_end : (gone : ℕ → Bool) (first : List ℕ) {rows : List ℕ} {count : ℕ} → Image rows count → (k : ℕ) → k < count → (u : ℕ) (see : ℕ → Bool) → BaseFrom gone first rows u k (size_at rows k) see
base_end gone first {rows} image k lt u see = record { at = λ j n xs l e t. absurd (let d : [] ≡ nonterminal n ∷ xs = sym (right_end image k lt j l) ∙ e in let z : ◌≡◌ {A = ℕ} 0 1 = cc in omega arith) }

pub base_lift : {gone : ℕ → Bool} {first rows : List ℕ} {u p : ℕ} (f h : ℕ → Bool) → Inside f h → BaseFrom gone first rows u p 0 f → BaseFrom gone first rows u p 0 h
base_lift f h sub b = record { at = λ j n xs l e t. sub n (b.at j n xs l e t) }

module _ (gone : ℕ → Bool) (first rows : List ℕ) (k u : ℕ) where
  pub bases_more : (f h : ℕ → Bool) → Inside f h → BasesTo gone first rows k u f → BaseFrom gone first rows u k 0 h → BasesTo gone first rows (k + 1) u h
  bases_more f h sub b g = record { base = λ p l. go p l (dec_lt p k) }
    where
      here : (p : ℕ) → p ≡ k → BaseFrom gone first rows u p 0 h
      here p e = rw e g

      go : (p : ℕ) → p < k + 1 → Dec (p < k) → BaseFrom gone first rows u p 0 h
      go p l (yes m) = base_lift f h sub (b.base p m)
      go p l (no m) = here p (omega arith)

-- ---- one symbol before a string
module _ (gone : ℕ → Bool) (first : List ℕ) (s rest u : ℕ) where
  abbrev turned : Bool
  turned = turn true gone (sees first u) u (symbol_of s) (members rest u)

  at : (x : Symbol) → symbol_of s ≡ x → turned ≡ turn true gone (sees first u) u x (members rest u)
  at x e = ap (λ (y : Symbol). turn true gone (sees first u) u y (members rest u)) e

  pub turn_token : (r : ℕ) → s < nonterminal_base → set_of r ≡ singleton s → members r u ≡ turned
  turn_token r h one = ap (λ (l : List Bool). has l u) one ∙ sym (at (terminal s) (symbol_terminal s h))

  pub turn_on : nonterminal_base ≤ s → gone (s - nonterminal_base) ≡ true → members (bit_or (get_or first (s - nonterminal_base) 0) rest) u ≡ turned
  turn_on h c = or_is (get_or first (s - nonterminal_base) 0) rest u ∙ sym (at (nonterminal (s - nonterminal_base)) (symbol_nonterminal s h) ∙ ap (λ (y : Bool). sees first u (s - nonterminal_base) || (y && members rest u)) c)

  pub turn_stop : nonterminal_base ≤ s → gone (s - nonterminal_base) ≡ false → members (get_or first (s - nonterminal_base) 0) u ≡ turned
  turn_stop h c = sym (at (nonterminal (s - nonterminal_base)) (symbol_nonterminal s h) ∙ ap (λ (y : Bool). sees first u (s - nonterminal_base) || (y && members rest u)) c ∙ or-false (sees first u (s - nonterminal_base)))

-- ---- tails
-- from place i of production p on: a nonterminal behind which all derives nothing has an edge to the left side
pub record EdgeFrom (gone : ℕ → Bool) (rows : List ℕ) (p i b : ℕ) (see : ℕ → Bool) : Type 0 where
  pub at : (j n : ℕ) (rest : List Symbol) → i ≤ j → drop j (right_at rows p) ≡ nonterminal n ∷ rest → T (all (fit false gone) rest) → left_at rows p ≡ b → T (see n)

-- the productions before k
pub record EdgesTo (gone : ℕ → Bool) (rows : List ℕ) (k b : ℕ) (see : ℕ → Bool) : Type 0 where
  pub edge : (p : ℕ) → p < k → EdgeFrom gone rows p 0 b see

-- the table and the edges filled by walks along right sides, with what then holds of each
pub record Behind (gone : ℕ → Bool) (first rows : List ℕ) (count : ℕ) (P Q : ℕ → (ℕ → Bool) → Type 0) (s e s' e' : List ℕ) : Type 0 where
  pub base : Filled (FollowClosed gone first rows count) P s s'
  pub edge : Filled (EdgesTo gone rows count) Q e e'

-- the left side while all behind a place derives nothing, then none
pub record Upward (gone : ℕ → Bool) (rows : List ℕ) (k i left up : ℕ) : Type 0 where
  pub is : up ≡ cond (all (fit false gone) (drop i (right_at rows k))) left 0

both_cond : (a b : Bool) (x : ℕ) → cond a (cond b x 0) 0 ≡ cond (a && b) x 0
both_cond true b x = refl
both_cond false b x = refl

module _ (gone : ℕ → Bool) {rows : List ℕ} {count : ℕ} (image : Image rows count) (k : ℕ) (lt : k < count) where
  pub up_start : (left : ℕ) → Upward gone rows k (size_at rows k) left left
  up_start left = record { is = sym (ap (λ (xs : List Symbol). cond (all (fit false gone) xs) left 0) (right_end image k lt (size_at rows k) (omega arith))) }

  pub edge_end : (b : ℕ) (see : ℕ → Bool) → EdgeFrom gone rows k (size_at rows k) b see
  edge_end b see = record { at = λ j n xs l e a t. absurd (let d : [] ≡ nonterminal n ∷ xs = sym (right_end image k lt j l) ∙ e in let z : ◌≡◌ {A = ℕ} 0 1 = cc in omega arith) }

  -- the symbol before place i
  module _ (i : ℕ) (more : 0 < i) (upto : i ≤ size_at rows k) where
    pub up_step : (left up on : ℕ) → Upward gone rows k i left up → on ≡ cond (fit false gone (symbol_of (byte_at rows k (i - 1)))) up 0 → Upward gone rows k (i - 1) left on
    up_step left up on a e =
        record {
          is = e ∙ ap (λ (x : ℕ). cond (fit false gone (symbol_of (byte_at rows k (i - 1)))) x 0) a.is
              ∙ both_cond (fit false gone (symbol_of (byte_at rows k (i - 1)))) (all (fit false gone) (drop i (right_at rows k))) left
              ∙ sym (ap (λ (xs : List Symbol). cond (all (fit false gone) xs) left 0) (right_back image k lt i more upto));
        }

    module _ (left : ℕ) (one : set_of left ≡ singleton (left_at rows k)) (up : ℕ) (a : Upward gone rows k i left up) where
      -- what is handed on is the left side, behind which all derives nothing
      up_only : (b : ℕ) → T (members up b) → T (all (fit false gone) (drop i (right_at rows k))) × (left_at rows k ≡ b)
      up_only b h = go (all (fit false gone) (drop i (right_at rows k))) a.is
        where
          go : (c : Bool) → up ≡ cond c left 0 → T c × (left_at rows k ≡ b)
          go true e = (tt, sym (single_only (left_at rows k) b (rw (e, one) at h)))
          go false e = absurd (rw (e, none_in b) at h)

      pub edge_fine : (b : ℕ) (see : ℕ → Bool) → EdgesTo gone rows count b see → T (members up b) → (n : ℕ) → symbol_of (byte_at rows k (i - 1)) ≡ nonterminal n → T (see n)
      edge_fine b see c h n e =
          let w = up_only b h in
          (c.edge k lt).at (i - 1) n (drop i (right_at rows k)) zero-le (right_back image k lt i more upto ∙ ap (λ (x : Symbol). x ∷ drop i (right_at rows k)) e) w.0 w.1

      up_has : (b : ℕ) → T (all (fit false gone) (drop i (right_at rows k))) → left_at rows k ≡ b → T (members up b)
      up_has b t h = go (all (fit false gone) (drop i (right_at rows k))) a.is t
        where
          go : (c : Bool) → up ≡ cond c left 0 → T c → T (members up b)
          go true e u = rw (e, one, ← h) (single_has (left_at rows k) (omega (arith, image.lefts k lt)))
          go false e u = absurd u

      pub edge_more : (b : ℕ) (f h : ℕ → Bool) → Inside f h → EdgeFrom gone rows k i b f → Gets (symbol_of (byte_at rows k (i - 1))) up b h → EdgeFrom gone rows k (i - 1) b h
      edge_more b f h sub c g = record { at = λ j n xs l e t o. go j n xs l e t o (dec_lt j i) }
        where
          go : (j n : ℕ) (xs : List Symbol) → i - 1 ≤ j → drop j (right_at rows k) ≡ nonterminal n ∷ xs → T (all (fit false gone) xs) → left_at rows k ≡ b → Dec (j < i) → T (h n)
          go j n xs l e t o (no m) = sub n (c.at j n xs (omega arith) e t o)
          go j n xs l e t o (yes m) =
              let q : j ≡ i - 1 = omega arith in
              let d : symbol_of (byte_at rows k (i - 1)) ∷ drop i (right_at rows k) ≡ nonterminal n ∷ xs = sym (right_back image k lt i more upto) ∙ ap (λ (y : ℕ). drop y (right_at rows k)) (sym q) ∙ e in
              let x : symbol_of (byte_at rows k (i - 1)) ≡ nonterminal n = cc in
              let y : xs ≡ drop i (right_at rows k) = cc in
              g.got n x (up_has b (rw y at t) o)

-- ---- whether a symbol hands it on
module _ (gone : ℕ → Bool) (s : ℕ) where
  pub fit_token : s < nonterminal_base → fit false gone (symbol_of s) ≡ false
  fit_token h = ap (fit false gone) (symbol_terminal s h)

  pub fit_nonterminal : nonterminal_base ≤ s → fit false gone (symbol_of s) ≡ gone (s - nonterminal_base)
  fit_nonterminal h = ap (fit false gone) (symbol_nonterminal s h)

edge_lift : {gone : ℕ → Bool} {rows : List ℕ} {p b : ℕ} (f h : ℕ → Bool) → Inside f h → EdgeFrom gone rows p 0 b f → EdgeFrom gone rows p 0 b h
edge_lift f h sub c = record { at = λ j n xs l e a t. sub n (c.at j n xs l e a t) }

pub edges_more : (gone : ℕ → Bool) (rows : List ℕ) (k b : ℕ) (f h : ℕ → Bool) → Inside f h → EdgesTo gone rows k b f → EdgeFrom gone rows k 0 b h → EdgesTo gone rows (k + 1) b h
edges_more gone rows k b f h sub c g = record { edge = λ p l. go p l (dec_lt p k) }
  where
    here : (p : ℕ) → p ≡ k → EdgeFrom gone rows p 0 b h
    here p e = rw e g

    go : (p : ℕ) → p < k + 1 → Dec (p < k) → EdgeFrom gone rows p 0 b h
    go p l (yes m) = edge_lift f h sub (c.edge p m)
    go p l (no m) = here p (omega arith)

-- ---- the whole
pub record Followed (gone : ℕ → Bool) (first rows : List ℕ) (count start : ℕ) (r : List ℕ) : Type 0 where
  pub begun : T (sees r end_number start)
  pub closed : (u : ℕ) → FollowClosed gone first rows count u (sees r u)
  pub least : (u : ℕ) (see : ℕ → Bool) → FollowClosed gone first rows count u see → (u ≡ end_number → T (see start)) → Inside (sees r u) see

-- before it is spread
pub record Following (gone : ℕ → Bool) (first rows : List ℕ) (count start : ℕ) (t : List ℕ) : Type 0 where
  pub begun : T (sees t end_number start)
  pub bases : (u : ℕ) → BasesTo gone first rows count u (sees t u)
  pub least : (u : ℕ) (see : ℕ → Bool) → FollowClosed gone first rows count u see → (u ≡ end_number → T (see start)) → Inside (sees t u) see

module _ (gone : ℕ → Bool) (first rows : List ℕ) (count start : ℕ) where
  pub following : (s t : List ℕ) → Added (replicate nonterminals_limit 0) (nonterminal start) (2 ^ end_number) s → Filled (FollowClosed gone first rows count) (BasesTo gone first rows count) s t → Following gone first rows count start t
  following s t j f =
      record {
        begun = f.keeps end_number start (j.adds start refl end_number (rw set_end (single_has end_number (lit< tt))));
        bases = f.holds;
        least = λ u see k b. f.sound u see k (λ n h. ⊎_elim (λ z. absurd (zeros_none nonterminals_limit u n z)) (there u see b n) (j.only u n h));
      }
    where
      there : (u : ℕ) (see : ℕ → Bool) → (u ≡ end_number → T (see start)) → (n : ℕ) → (nonterminal start ≡ nonterminal n) × T (members (2 ^ end_number) u) → T (see n)
      there u see b n w =
          let q = w.0 in
          let e : start ≡ n = cc in
          rw (sym e) (b (single_only end_number u (rw set_end at w.1)))

  module _ (t e : List ℕ) (f : Following gone first rows count start t) (d : Filled (EdgesTo gone rows count) (EdgesTo gone rows count) (replicate nonterminals_limit 0) e) where
    edges_in : (b : ℕ) (see : ℕ → Bool) → EdgesTo gone rows count b see → Inside (sees e b) see
    edges_in b see c = d.sound b see c (λ n h. absurd (zeros_none nonterminals_limit b n h))

    -- only nonterminals of the table have edges and sets
    module _ (n : ℕ) (b : Below n rows count) where
      pub edges_short : Short n e
      edges_short = record { beyond = λ a u l h. absurd (let m = ltb→lt a n (edges_in u (λ x. ltb x n) (record { edge = λ p q. record { at = λ j x xs _ w _ _. lt→ltb x n (b.rights p j x xs q w) } }) a h) in omega arith) }

      pub follow_short : start < n → Short n t
      follow_short s =
          record { beyond = λ a u l h. absurd (let m = ltb→lt a n (f.least u (λ x. ltb x n) (within u) (λ _. lt→ltb start n s) a h) in omega arith) }
        where
          within : (u : ℕ) → FollowClosed gone first rows count u (λ x. ltb x n)
          within u =
              record {
                bases = record { base = λ p q. record { at = λ j x xs _ w _. lt→ltb x n (b.rights p j x xs q w) } };
                tails = record { tail = λ p q. record { at = λ j x xs _ w _ _. lt→ltb x n (b.rights p j x xs q w) } };
              }

    pub followed : (r : List ℕ) → Spread e t r → Followed gone first rows count start r
    followed r sp =
        record {
          begun = (sp.closed end_number).own start f.begun;
          closed = λ u. record { bases = record { base = λ p l. base_lift (sees t u) (sees r u) (sp.closed u).own ((f.bases u).base p l) }; tails = record { tail = λ p l. record { at = after u p l } } };
          least = λ u see k b. sp.least u see (record { own = f.least u see k b; edge = λ a c h s. edges_in c see (record { edge = λ p l. record { at = λ j n xs _ q v w. (k.tails.tail p l).at j n xs zero-le q v (rw w s) } }) a h });
        }
      where
        after : (u p : ℕ) → p < count → (j n : ℕ) (xs : List Symbol) → 0 ≤ j → drop j (right_at rows p) ≡ nonterminal n ∷ xs → T (all (fit false gone) xs) → T (sees r u (left_at rows p)) → T (sees r u n)
        after u p l j n xs z q a h = (sp.closed u).edge n (left_at rows p) (((d.holds (left_at rows p)).edge p l).at j n xs zero-le q a refl) h
