-- The ways out of a node and of a list of children: what is described has these ends and no others, or nothing is described.
use Rattle.std.specs.Prelude.{ℕ, suc, ◌+◌, ◌-◌, ◌*◌, ◌≤◌, ◌<◌, ◌≡◌, true, false, List, [], ◌∷◌, get_or, length, drop, T, ℤ}
use Rattle.std.proofs.Common.{arith, sym, ap, ◌∙◌, subst, true≢false, drop_of_length-le}
use Rattle.std.proofs.Math.Decide.{dec_lt}
use Rattle.meaning.specs.Grammar.{Grammar, Symbol, terminal, nonterminal, Leaf, Production, leaves, att, production_at}
use Rattle.meaning.specs.Rules.{WellFormed, WellFormedProduction}
use Rattle.meaning.specs.Layout.{Bytes}
use Rattle.meaning.specs.Calls.{tokens_from}
use Rattle.meaning.specs.Tree.{Forest, node, yields, child, is_leaf_of, WellEvaluateds}
use Rattle.meaning_sheet.specs.Sheet.{sheets}
use Rattle.theory_base.specs.WellFormed.{well_formed_at}
use Rattle.value.specs.Constants.{word_at}
use Rattle.theory_judge.specs.Longs.{longs, longs_size, cons_one}
use Rattle.theory_judge.specs.Described.{BytesStand, Described, DescribedAll, no_leaf, token_made, token_only, Heading, own_values, NodeHere, node_only, node_made, children_none, none_only, children_more, Split, children_split, ends_inside}
use Rattle.theory_judge.specs.Holding.{all_true}
use Rattle.theory_judge.specs.Marks.{read_at, MarkShows, mark_of, values_shown, described_shown, all_hold, hold_all_lem}

-- these ends, and no others
abbrev pub Only : (ℕ → ℕ → Type 0) → ℕ → ℕ → Type 0
Only P n e = P n e × ((m k : ℕ) → P m k → (m ≡ n) × (k ≡ e))

abbrev pub None : (ℕ → ℕ → Type 0) → Type 0
None P = (m k : ℕ) → P m k → ⊥

-- ---- a token

module _ (g : Grammar) (us : List Leaf) (bytes : List ℕ) (at from k d : ℕ) where
  pub token_fits : T (is_leaf_of g (get_or us from no_leaf)) → from < length us → (get_or us from no_leaf).kind ≡ k → Only (Described g us bytes at from (terminal k) d) at (from + 1)
  token_fits t l e = (token_made g us bytes at from k d t l e, λ n q h. let o = token_only g us bytes at from k d n q h in (o.sheet_stays, o.one_read))

  pub token_over : length us ≤ from → None (Described g us bytes at from (terminal k) d)
  token_over l n q h = omega (arith, (token_only g us bytes at from k d n q h).inside)

  pub token_other : ((get_or us from no_leaf).kind ≡ k → ⊥) → None (Described g us bytes at from (terminal k) d)
  token_other f n q h = f (token_only g us bytes at from k d n q h).kind

-- ---- children

-- a list of trees under another name of its symbols, or of the places where it begins: the trees are the same
abbrev relisted : {g : Grammar} {us : List Leaf} {bytes : List ℕ} {at from : ℕ} {xs ys : List Symbol} {d n e : ℕ} → DescribedAll g us bytes at from xs d n e → xs ≡ ys → DescribedAll g us bytes at from ys d n e
relisted {g = g} h q = record { trees = h.trees; evaluated = subst (λ l. WellEvaluateds g h.trees l) q h.evaluated; shallow = h.shallow; stands = h.stands }

abbrev moved : {g : Grammar} {us : List Leaf} {bytes : List ℕ} {at from at' from' : ℕ} {xs : List Symbol} {d n e : ℕ} → DescribedAll g us bytes at from xs d n e → at ≡ at' → from ≡ from' → DescribedAll g us bytes at' from' xs d n e
moved {us = us} {bytes = bytes} {from = from} {at' = at'} {n = n} {e = e} h p q = record {
  trees = h.trees;
  evaluated = h.evaluated;
  shallow = h.shallow;
  stands = subst (λ k. BytesStand us bytes at' k (sheets k h.trees) (yields h.trees) n e) q (subst (λ k. BytesStand us bytes k from (sheets from h.trees) (yields h.trees) n e) p h.stands);
}

-- the marks of a list of symbols show the values of their trees
pub record Marked (g : Grammar) (us : List Leaf) (bytes : List ℕ) (vals : List ℤ) (at from : ℕ) (xs : List Symbol) (d : ℕ) (marks : List ℕ) : Type 0 where
  pub shown : (n e : ℕ) (x : DescribedAll g us bytes at from xs d n e) (i : ℕ) → i < length xs → MarkShows bytes vals (get_or marks (suc i) 0) (child x.trees i)

-- the trees from the k-th on
pub record Rest (g : Grammar) (us : List Leaf) (bytes : List ℕ) (xs : List Symbol) (d k next end n e : ℕ) (whole : Forest) : Type 0 where
  pub left : DescribedAll g us bytes next end (drop k xs) d n e
  pub same : (i : ℕ) → child whole (k + i) ≡ child left.trees i

-- k of the symbols are passed, up to `next` and `end`
pub record Upto (g : Grammar) (us : List Leaf) (bytes : List ℕ) (vals : List ℤ) (at from : ℕ) (xs : List Symbol) (d k next end : ℕ) (marks : List ℕ) : Type 0 where
  pub made : (n e : ℕ) → DescribedAll g us bytes next end (drop k xs) d n e → DescribedAll g us bytes at from xs d n e
  pub rest : (n e : ℕ) (x : DescribedAll g us bytes at from xs d n e) → Rest g us bytes xs d k next end n e x.trees
  pub marked : (n e : ℕ) (x : DescribedAll g us bytes at from xs d n e) (i : ℕ) → i < k → MarkShows bytes vals (get_or marks (suc i) 0) (child x.trees i)
  pub inside : end ≤ length us

module _ (g : Grammar) (formed : WellFormed g) (ks : List ℕ) (vals : List ℤ) (few : length (leaves g (tokens_from ks vals)) < 4294967296) (bytes : List ℕ) (at from : ℕ) (xs : List Symbol) (d : ℕ) where
  abbrev us : List Leaf
  us = leaves g (tokens_from ks vals)

  pub upto_none : from ≤ length us → (marks : List ℕ) → Upto g us bytes vals at from xs d 0 at from marks
  upto_none l marks = record {
    made = λ n e x. x;
    rest = λ n e x. record { left = x; same = λ i. ap (child x.trees) (omega arith) };
    marked = λ n e x i z. absurd (omega arith);
    inside = l;
  }

  module _ (k next end : ℕ) (marks : List ℕ) (u : Upto g us bytes vals at from xs d k next end marks) where
    module _ (l : k < length xs) where
      abbrev x₀ : Symbol
      x₀ = get_or xs k (terminal 0)

      abbrev First : ℕ → ℕ → Type 0
      First = Described g us bytes next end x₀ d

      here : drop k xs ≡ x₀ ∷ drop (k + 1) xs
      here = cons_one xs (terminal 0) k l

      parted : (n e : ℕ) (x : DescribedAll g us bytes at from xs d n e) → Split g us bytes next end x₀ (drop (k + 1) xs) d n e (u.rest n e x).left.trees
      parted n e x = children_split g us bytes next end x₀ (drop (k + 1) xs) d n e (relisted (u.rest n e x).left here)

      pub upto_wrong : None First → None (DescribedAll g us bytes at from xs d)
      upto_wrong f n e x = f _ _ (parted n e x).first

      module _ (n₁ e₁ : ℕ) (only : Only First n₁ e₁) (marks' : List ℕ) (kept : (i : ℕ) → i < k → get_or marks' (suc i) 0 ≡ get_or marks (suc i) 0) (new : get_or marks' (suc k) 0 ≡ mark_of (length bytes) x₀ next end) where
        made_more : (n e : ℕ) → DescribedAll g us bytes n₁ e₁ (drop (k + 1) xs) d n e → DescribedAll g us bytes at from xs d n e
        made_more n e y = u.made n e (relisted (children_more g us bytes next end x₀ (drop (k + 1) xs) d n e n₁ e₁ only.0 y) (sym here))

        rest_more : (n e : ℕ) (x : DescribedAll g us bytes at from xs d n e) → Rest g us bytes xs d (k + 1) n₁ e₁ n e x.trees
        rest_more n e x =
            let q = u.rest n e x in
            let s = parted n e x in
            let z = only.1 s.mid s.seam s.first in
            record {
              left = moved s.others z.0 z.1;
              same = λ i.
                  let e₀ : k + 1 + i ≡ k + suc i = omega arith in
                  ap (child x.trees) e₀ ∙ (q.same (suc i) ∙ ap (λ f. child f (suc i)) s.joined);
            }

        at_hand : (n e : ℕ) (x : DescribedAll g us bytes at from xs d n e) → MarkShows bytes vals (get_or marks' (suc k) 0) (child x.trees k)
        at_hand n e x =
            let q = u.rest n e x in
            let s = parted n e x in
            let e₀ : k ≡ k + 0 = omega arith in
            let t : child x.trees k ≡ s.first.tree = ap (child x.trees) e₀ ∙ (q.same 0 ∙ ap (λ f. child f 0) s.joined) in
            subst (λ m. MarkShows bytes vals m (child x.trees k)) (sym new)
            (subst (λ t. MarkShows bytes vals (mark_of (length bytes) x₀ next end) t) (sym t) (described_shown g formed ks vals few bytes next end u.inside x₀ d s.mid s.seam s.first))

        marked_more : (n e : ℕ) (x : DescribedAll g us bytes at from xs d n e) (i : ℕ) → i < k + 1 → MarkShows bytes vals (get_or marks' (suc i) 0) (child x.trees i)
        marked_more n e x i h = go (dec_lt i k)
          where
            go : Dec (i < k) → MarkShows bytes vals (get_or marks' (suc i) 0) (child x.trees i)
            go (yes m) = subst (λ v. MarkShows bytes vals v (child x.trees i)) (sym (kept i m)) (u.marked n e x i m)
            go (no m) = let same : k ≡ i = omega arith in subst (λ j. MarkShows bytes vals (get_or marks' (suc j) 0) (child x.trees j)) same (at_hand n e x)

        pub upto_more : Upto g us bytes vals at from xs d (k + 1) n₁ e₁ marks'
        upto_more = record { made = made_more; rest = rest_more; marked = marked_more; inside = ends_inside u.inside only.0.stands }

    module _ (l : length xs ≤ k) where
      over : drop k xs ≡ []
      over = drop_of_length-le xs {i = k} l

      pub upto_end : Only (DescribedAll g us bytes at from xs d) next end
      upto_end = (u.made next end (relisted (children_none g us bytes next end d) (sym over)), λ n e x. none_only g us bytes next end d n e (relisted (u.rest n e x).left over))

      pub upto_marked : k ≡ length xs → Marked g us bytes vals at from xs d marks
      upto_marked e = record { shown = λ n q x i h. u.marked n q x i (omega arith) }

-- ---- a node

module _ (g : Grammar) (formed : WellFormed g) (ks : List ℕ) (vals : List ℤ) (few : length (leaves g (tokens_from ks vals)) < 4294967296) (bytes : List ℕ) (is_bytes : Bytes bytes) (at from m d : ℕ) (low : from ≤ length (leaves g (tokens_from ks vals))) where
  abbrev leaves₀ : List Leaf
  leaves₀ = leaves g (tokens_from ks vals)

  abbrev Here : ℕ → ℕ → Type 0
  Here = Described g leaves₀ bytes at from (nonterminal m) d

  only_node : (n e : ℕ) → Here n e → NodeHere g leaves₀ bytes at from m d n e
  only_node n e h = node_only g formed leaves₀ few bytes at from m d n e low h

  pub node_flat : d ≡ 0 → None Here
  node_flat z n e h = omega (arith, (only_node n e h).deep)

  pub node_unfit : (Heading g bytes at from m → ⊥) → None Here
  node_unfit f n e h = f (only_node n e h).heading

  abbrev pr : Production
  pr = production_at g (word_at bytes at)

  abbrev Below : ℕ → ℕ → Type 0
  Below = DescribedAll g leaves₀ bytes (at + 12 + 8 * att g (nonterminal m)) from pr.right (d - 1)

  pub node_wrong : None Below → None Here
  node_wrong f n e h = f n e (only_node n e h).children

  module _ (n e : ℕ) (only : Only Below n e) where
    pub node_uncovered : (e - from ≡ word_at bytes (at + 8) → ⊥) → None Here
    node_uncovered f n' e' h = let q = only_node n' e' h in f (ap (λ k. k - from) (sym (only.1 n' e' q.children).1) ∙ q.covered)

    module _ (heading : Heading g bytes at from m) (marks : List ℕ) (first : get_or marks 0 0 ≡ at) (marked : Marked g leaves₀ bytes vals (at + 12 + 8 * att g (nonterminal m)) from pr.right (d - 1) marks) where
      size : length (own_values g bytes at m) ≡ att g (nonterminal pr.left)
      size = longs_size bytes (at + 12) (att g (nonterminal m)) ∙ ap (λ k. att g (nonterminal k)) (sym heading.left)

      good : WellFormedProduction g pr
      good = well_formed_at g formed (word_at bytes at) heading.listed

      own : (f : Forest) → MarkShows bytes vals (get_or marks 0 0) (node 0 (own_values g bytes at m) f)
      own f = subst (λ k. MarkShows bytes vals k (node 0 (own_values g bytes at m) f)) (sym first) (values_shown bytes vals at 0 (own_values g bytes at m) f (omega (arith, heading.inside)) heading.ranges (ap (longs bytes (at + 12)) (longs_size bytes (at + 12) (att g (nonterminal m)))))

      pub node_fits : 1 ≤ d → e - from ≡ word_at bytes (at + 8) → all_true (read_at bytes vals marks) pr.rules pr.conditions ≡ true → Only Here n e
      node_fits deep covered h =
          let c = only.0 in
          let a = all_hold g bytes vals marks pr good (own_values g bytes at m) c.trees size heading.ranges c.evaluated (own c.trees) (marked.shown n e c) h in
          (node_made g formed leaves₀ few bytes at from m d n e low is_bytes (record { deep = deep; heading = heading; children = c; covered = covered; rules = a.0; conditions = a.1 }), λ n' e' x. only.1 n' e' (only_node n' e' x).children)

      pub node_false : all_true (read_at bytes vals marks) pr.rules pr.conditions ≡ false → None Here
      node_false h n' e' x =
          let q = only_node n' e' x in
          let c = q.children in
          true≢false (sym (hold_all_lem g bytes vals marks pr good (own_values g bytes at m) c.trees size heading.ranges c.evaluated (own c.trees) (marked.shown n' e' c) q.rules q.conditions) ∙ h)
