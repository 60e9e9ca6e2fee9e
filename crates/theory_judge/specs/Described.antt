-- What a sheet describes from a place on: a tree, or a tree for each symbol of a list, taken apart and put together.
use Rattle.std.specs.Prelude.{ℕ, ◌+◌, ◌-◌, ◌*◌, ◌≤◌, ◌<◌, ◌≡◌, refl, List, [], ◌∷◌, ◌++◌, get_or, length, drop, T, ℤ}
use Rattle.std.proofs.Common.{arith, sym, ap, ◌∙◌, subst, append_assoc, length-append, length-drop}
use Rattle.meaning.specs.Base.{all}
use Rattle.meaning.specs.Grammar.{Grammar, Symbol, terminal, nonterminal, Leaf, att, production_at}
use Rattle.meaning.specs.Rules.{WellFormed}
use Rattle.meaning.specs.Value.{in_range, holds}
use Rattle.meaning.specs.Layout.{four_bytes, Bytes}
use Rattle.meaning.specs.Tree.{Tree, Forest, leaf, node, no_trees, tree_and, yield, yields, value_at, RulesHold, Node, is_leaf_of, WellEvaluated, WellEvaluateds}
use Rattle.meaning.specs.Drawn.{depth, depths}
use Rattle.meaning_sheet.specs.Sheet.{record_bytes, value_bytes, sheet, sheets}
use Rattle.value.specs.Constants.{word_at}
use Rattle.theory_sheet.specs.Overlay.{values_length, record_length}
use Rattle.theory_judge.specs.Longs.{drop_past, cons_one, word_back, word_there, longs, longs_size, longs_read, longs_there}

-- ---- one record

-- what is read of the record at a place of the sheet, and what stands behind it
pub record RecordRead (bytes : List ℕ) (at p before covered : ℕ) (vs : List ℤ) (rest : List ℕ) : Type 0 where
  pub inside : at + 12 + 8 * length vs ≤ length bytes
  pub production : word_at bytes at ≡ p
  pub tokens_before : word_at bytes (at + 4) ≡ before
  pub tokens_covered : word_at bytes (at + 8) ≡ covered
  pub values : longs bytes (at + 12) (length vs) ≡ vs
  pub behind : drop (at + 12 + 8 * length vs) bytes ≡ rest

pub record_read : (bytes : List ℕ) (at p b w : ℕ) (vs : List ℤ) (rest : List ℕ) → p < 4294967296 → b < 4294967296 → w < 4294967296 → T (all in_range vs) → drop at bytes ≡ record_bytes p b w vs ++ rest → RecordRead bytes at p b w vs rest
record_read bytes at p b w vs rest lp lb lw t e =
    let e₁ : drop (at + 4) bytes ≡ four_bytes b ++ (four_bytes w ++ (value_bytes vs ++ rest)) = drop_past bytes (four_bytes p) (four_bytes b ++ (four_bytes w ++ (value_bytes vs ++ rest))) at e in
    let e₂ : drop (at + 8) bytes ≡ four_bytes w ++ (value_bytes vs ++ rest) = ap (λ i. drop i bytes) four ∙ drop_past bytes (four_bytes b) (four_bytes w ++ (value_bytes vs ++ rest)) (at + 4) e₁ in
    let e₃ : drop (at + 12) bytes ≡ value_bytes vs ++ rest = ap (λ i. drop i bytes) eight ∙ drop_past bytes (four_bytes w) (value_bytes vs ++ rest) (at + 8) e₂ in
    record {
      inside = omega (arith, ap length e, length-drop at bytes, length-append (record_bytes p b w vs) rest, record_length p b w vs);
      production = word_back bytes at p (four_bytes b ++ (four_bytes w ++ (value_bytes vs ++ rest))) lp e;
      tokens_before = word_back bytes (at + 4) b (four_bytes w ++ (value_bytes vs ++ rest)) lb e₁;
      tokens_covered = word_back bytes (at + 8) w (value_bytes vs ++ rest) lw e₂;
      values = longs_read bytes (at + 12) vs rest t e₃;
      behind = ap (λ i. drop i bytes) size ∙ drop_past bytes (value_bytes vs) rest (at + 12) e₃;
    }
  where
    four : at + 8 ≡ at + 4 + 4
    four = omega arith

    eight : at + 12 ≡ at + 8 + 4
    eight = omega arith

    size : at + 12 + 8 * length vs ≡ at + 12 + length (value_bytes vs)
    size = omega (arith, values_length vs)

pub record_there : (bytes : List ℕ) → Bytes bytes → (at n : ℕ) → at + 12 + 8 * n ≤ length bytes → drop at bytes ≡ record_bytes (word_at bytes at) (word_at bytes (at + 4)) (word_at bytes (at + 8)) (longs bytes (at + 12) n) ++ drop (at + 12 + 8 * n) bytes
record_there bytes h at n l =
    let e₂ : at + 4 + 4 ≡ at + 8 = omega arith in
    let e₃ : at + 8 + 4 ≡ at + 12 = omega arith in
    word_there bytes h at (omega arith)
    ∙ ap (λ r. four_bytes (word_at bytes at) ++ r) (word_there bytes h (at + 4) (omega arith)
    ∙ ap (λ r. four_bytes (word_at bytes (at + 4)) ++ r) (ap (λ i. drop i bytes) e₂ ∙ word_there bytes h (at + 8) (omega arith)
    ∙ ap (λ r. four_bytes (word_at bytes (at + 8)) ++ r) (ap (λ i. drop i bytes) e₃ ∙ longs_there bytes h (at + 12) n (omega arith))))

-- ---- trees from a place on

-- these bytes stand in the sheet from `at` up to `next`, these leaves in the segment from `from` up to `end`
pub record BytesStand (us : List Leaf) (bytes : List ℕ) (at from : ℕ) (cells : List ℕ) (read : List Leaf) (next end : ℕ) : Type 0 where
  pub written : drop at bytes ≡ cells ++ drop next bytes
  pub sheet_end : next ≡ at + length cells
  pub tokens : drop from us ≡ read ++ drop end us
  pub tokens_end : end ≡ from + length read

-- some well evaluated tree of the symbol x, of depth at most d, has its records from `at` up to `next` and its yield from `from` up to `end`
pub record Described (g : Grammar) (us : List Leaf) (bytes : List ℕ) (at from : ℕ) (x : Symbol) (d next end : ℕ) : Type 0 where
  pub tree : Tree
  pub evaluated : WellEvaluated g tree x
  pub shallow : depth tree ≤ d
  pub stands : BytesStand us bytes at from (sheet from tree) (yield tree) next end

-- the same for a list of symbols and a tree for each
pub record DescribedAll (g : Grammar) (us : List Leaf) (bytes : List ℕ) (at from : ℕ) (xs : List Symbol) (d next end : ℕ) : Type 0 where
  pub trees : Forest
  pub evaluated : WellEvaluateds g trees xs
  pub shallow : depths trees ≤ d
  pub stands : BytesStand us bytes at from (sheets from trees) (yields trees) next end

-- what ends behind a first part of the segment ends in it
pub ends_inside : {us : List Leaf} {bytes : List ℕ} {at from : ℕ} {cells : List ℕ} {read : List Leaf} {next end : ℕ} → from ≤ length us → BytesStand us bytes at from cells read next end → end ≤ length us
ends_inside {us = us} {from = from} {read = read} {end = end} l s = omega (arith, l, ap length s.tokens, length-drop from us, length-append read (drop end us), length-drop end us, s.tokens_end)

pub yield_small : {us : List Leaf} {bytes : List ℕ} {at from : ℕ} {cells : List ℕ} {read : List Leaf} {next end : ℕ} → BytesStand us bytes at from cells read next end → length read ≤ length us
yield_small {us = us} {from = from} {read = read} {end = end} s = omega (arith, ap length s.tokens, length-drop from us, length-append read (drop end us))

-- ---- a token

abbrev pub no_leaf : Leaf
no_leaf = record { kind = 0; values = [] }

module _ (g : Grammar) (us : List Leaf) (bytes : List ℕ) (at from k d : ℕ) where
  pub token_made : T (is_leaf_of g (get_or us from no_leaf)) → from < length us → (get_or us from no_leaf).kind ≡ k → Described g us bytes at from (terminal k) d at (from + 1)
  token_made t h e = record {
    tree = leaf (get_or us from no_leaf);
    evaluated = (ap terminal (sym e), t);
    shallow = omega arith;
    stands = record { written = refl; sheet_end = omega arith; tokens = cons_one us no_leaf from h; tokens_end = refl };
  }

  pub record TokenHere (n e : ℕ) : Type 0 where
    pub inside : from < length us
    pub kind : (get_or us from no_leaf).kind ≡ k
    pub sheet_stays : n ≡ at
    pub one_read : e ≡ from + 1

  pub token_only : (n e : ℕ) → Described g us bytes at from (terminal k) d n e → TokenHere n e
  token_only n e h = go h.tree h.evaluated h.stands
    where
      go : (t : Tree) → WellEvaluated g t (terminal k) → BytesStand us bytes at from (sheet from t) (yield t) n e → TokenHere n e
      go (leaf u) w s =
          let l : from < length us = omega (arith, ap length s.tokens, length-drop from us) in
          let f : get_or us from no_leaf ∷ drop (from + 1) us ≡ u ∷ drop e us = sym (cons_one us no_leaf from l) ∙ s.tokens in
          let here : get_or us from no_leaf ≡ u = cc in
          let same : terminal k ≡ terminal u.kind = w.0 in
          let kinds : k ≡ u.kind = cc in
          record { inside = l; kind = ap (λ v. v.kind) here ∙ sym kinds; sheet_stays = omega (arith, s.sheet_end); one_read = s.tokens_end }
      go (node p vs f) w s = let z = w.0.symbol in let y : ◌≡◌ {A = ℕ} 0 1 = cc in absurd (omega arith)

-- ---- a node

-- what the record of a node of nonterminal m says of it alone
pub record Heading (g : Grammar) (bytes : List ℕ) (at from m : ℕ) : Type 0 where
  pub inside : at + 12 + 8 * att g (nonterminal m) ≤ length bytes
  pub listed : word_at bytes at < length g.productions
  pub left : (production_at g (word_at bytes at)).left ≡ m
  pub before : word_at bytes (at + 4) ≡ from
  pub ranges : T (all in_range (longs bytes (at + 12) (att g (nonterminal m))))

-- the values of its left side's attributes
abbrev pub own_values : Grammar → List ℕ → ℕ → ℕ → List ℤ
own_values g bytes at m = longs bytes (at + 12) (att g (nonterminal m))

pub record NodeHere (g : Grammar) (us : List Leaf) (bytes : List ℕ) (at from m d n e : ℕ) : Type 0 where
  pub deep : 1 ≤ d
  pub heading : Heading g bytes at from m
  pub children : DescribedAll g us bytes (at + 12 + 8 * att g (nonterminal m)) from (production_at g (word_at bytes at)).right (d - 1) n e
  pub covered : e - from ≡ word_at bytes (at + 8)
  pub rules : RulesHold (own_values g bytes at m) children.trees (production_at g (word_at bytes at)).rules
  pub conditions : T (all (holds (value_at (own_values g bytes at m) children.trees)) (production_at g (word_at bytes at)).conditions)

module _ (g : Grammar) (formed : WellFormed g) (us : List Leaf) (few : length us < 4294967296) (bytes : List ℕ) (at from m d n e : ℕ) (low : from ≤ length us) where
  pub node_only : Described g us bytes at from (nonterminal m) d n e → NodeHere g us bytes at from m d n e
  node_only h = go h.tree h.evaluated h.shallow h.stands
    where
      go : (t : Tree) → WellEvaluated g t (nonterminal m) → depth t ≤ d → BytesStand us bytes at from (sheet from t) (yield t) n e → NodeHere g us bytes at from m d n e
      go (leaf u) w l s = let z = w.0 in let y : ◌≡◌ {A = ℕ} 0 1 = cc in absurd (omega arith)
      go (node p vs f) w l s =
          let own : Node g (nonterminal m) p vs f = w.0 in
          let e₀ : drop at bytes ≡ record_bytes p from (length (yields f)) vs ++ (sheets from f ++ drop n bytes) = s.written ∙ append_assoc (record_bytes p from (length (yields f)) vs) (sheets from f) (drop n bytes) in
          let rest = sheets from f ++ drop n bytes in
          let r = record_read bytes at p from (length (yields f)) vs rest (omega (arith, own.listed, formed.productions.1)) (omega arith) (omega (arith, yield_small s)) own.ranges e₀ in
          let z : nonterminal m ≡ nonterminal (production_at g p).left = own.symbol in
          let left_is : m ≡ (production_at g p).left = cc in
          let same : p ≡ word_at bytes at = sym r.production in
          let values_are : vs ≡ own_values g bytes at m = sym (ap (longs bytes (at + 12)) (sym own.size) ∙ r.values) in
          let size : at + 12 + 8 * length vs ≡ at + 12 + 8 * att g (nonterminal m) = ap (λ k. at + 12 + 8 * k) own.size in
          record {
            deep = omega (arith, l);
            heading = record {
              inside = omega (arith, r.inside, own.size);
              listed = omega (arith, own.listed, r.production);
              left = ap (λ q. (production_at g q).left) (sym same) ∙ sym left_is;
              before = r.tokens_before;
              ranges = subst (λ ws. T (all in_range ws)) values_are own.ranges;
            };
            children = record {
              trees = f;
              evaluated = subst (λ q. WellEvaluateds g f (production_at g q).right) same w.1;
              shallow = omega (arith, l);
              stands = record {
                written = subst (λ i. drop i bytes ≡ sheets from f ++ drop n bytes) size r.behind;
                sheet_end = omega (arith, s.sheet_end, length-append (record_bytes p from (length (yields f)) vs) (sheets from f), record_length p from (length (yields f)) vs, own.size);
                tokens = s.tokens;
                tokens_end = s.tokens_end;
              };
            };
            covered = omega (arith, s.tokens_end, r.tokens_covered);
            rules = subst (λ ws. RulesHold ws f (production_at g (word_at bytes at)).rules) values_are (subst (λ q. RulesHold vs f (production_at g q).rules) same own.rules);
            conditions = subst (λ ws. T (all (holds (value_at ws f)) (production_at g (word_at bytes at)).conditions)) values_are (subst (λ q. T (all (holds (value_at vs f)) (production_at g q).conditions)) same own.conditions);
          }

  pub node_made : Bytes bytes → NodeHere g us bytes at from m d n e → Described g us bytes at from (nonterminal m) d n e
  node_made b h =
      let f : Forest = h.children.trees in
      let p : ℕ = word_at bytes at in
      let vs : List ℤ = own_values g bytes at m in
      let s = h.children.stands in
      let size : length vs ≡ att g (nonterminal m) = longs_size bytes (at + 12) (att g (nonterminal m)) in
      let covers : word_at bytes (at + 8) ≡ length (yields f) = omega (arith, h.covered, s.tokens_end) in
      let there = record_there bytes b at (att g (nonterminal m)) h.heading.inside in
      let head : record_bytes p (word_at bytes (at + 4)) (word_at bytes (at + 8)) vs ≡ record_bytes p from (length (yields f)) vs = ap (λ k. record_bytes p k (word_at bytes (at + 8)) vs) h.heading.before ∙ ap (λ k. record_bytes p from k vs) covers in
      record {
        tree = node p vs f;
        evaluated = (
          record {
            listed = h.heading.listed;
            symbol = ap nonterminal (sym h.heading.left);
            size = size;
            ranges = h.heading.ranges;
            rules = h.rules;
            conditions = h.conditions;
          },
          h.children.evaluated,
        );
        shallow = omega (arith, h.deep, h.children.shallow);
        stands = record {
          written = there ∙ (ap (λ c. c ++ drop (at + 12 + 8 * att g (nonterminal m)) bytes) head ∙ (ap (λ r. record_bytes p from (length (yields f)) vs ++ r) s.written ∙ sym (append_assoc (record_bytes p from (length (yields f)) vs) (sheets from f) (drop n bytes))));
          sheet_end = omega (arith, s.sheet_end, length-append (record_bytes p from (length (yields f)) vs) (sheets from f), record_length p from (length (yields f)) vs, size);
          tokens = s.tokens;
          tokens_end = s.tokens_end;
        };
      }

-- ---- a list of trees

pub children_none : (g : Grammar) (us : List Leaf) (bytes : List ℕ) (at from d : ℕ) → DescribedAll g us bytes at from [] d at from
children_none g us bytes at from d = record { trees = no_trees; evaluated = tt; shallow = omega arith; stands = record { written = refl; sheet_end = omega arith; tokens = refl; tokens_end = omega arith } }

pub none_only : (g : Grammar) (us : List Leaf) (bytes : List ℕ) (at from d n e : ℕ) → DescribedAll g us bytes at from [] d n e → (n ≡ at) × (e ≡ from)
none_only g us bytes at from d n e h = go h.trees h.evaluated h.stands
  where
    go : (f : Forest) → WellEvaluateds g f [] → BytesStand us bytes at from (sheets from f) (yields f) n e → (n ≡ at) × (e ≡ from)
    go no_trees w s = (omega (arith, s.sheet_end), omega (arith, s.tokens_end))
    go (tree_and t f) w s = absurd w

-- the first tree, and those of the other symbols
pub record Split (g : Grammar) (us : List Leaf) (bytes : List ℕ) (at from : ℕ) (x : Symbol) (xs : List Symbol) (d n e : ℕ) (whole : Forest) : Type 0 where
  pub mid : ℕ
  pub seam : ℕ
  pub first : Described g us bytes at from x d mid seam
  pub others : DescribedAll g us bytes mid seam xs d n e
  pub joined : whole ≡ tree_and first.tree others.trees

module _ (g : Grammar) (us : List Leaf) (bytes : List ℕ) (at from : ℕ) (x : Symbol) (xs : List Symbol) (d n e : ℕ) where
  pub children_more : (m k : ℕ) → Described g us bytes at from x d m k → DescribedAll g us bytes m k xs d n e → DescribedAll g us bytes at from (x ∷ xs) d n e
  children_more m k a b =
      let t = a.tree in
      let f = b.trees in
      let seam_is : k ≡ from + length (yield t) = a.stands.tokens_end in
      let w : drop m bytes ≡ sheets (from + length (yield t)) f ++ drop n bytes = subst (λ i. drop m bytes ≡ sheets i f ++ drop n bytes) seam_is b.stands.written in
      let q : n ≡ m + length (sheets (from + length (yield t)) f) = subst (λ i. n ≡ m + length (sheets i f)) seam_is b.stands.sheet_end in
      record {
        trees = tree_and t f;
        evaluated = (a.evaluated, b.evaluated);
        shallow = omega (arith, a.shallow, b.shallow);
        stands = record {
          written = a.stands.written ∙ (ap (λ r. sheet from t ++ r) w ∙ sym (append_assoc (sheet from t) (sheets (from + length (yield t)) f) (drop n bytes)));
          sheet_end = omega (arith, a.stands.sheet_end, q, length-append (sheet from t) (sheets (from + length (yield t)) f));
          tokens = a.stands.tokens ∙ (ap (λ r. yield t ++ r) b.stands.tokens ∙ sym (append_assoc (yield t) (yields f) (drop e us)));
          tokens_end = omega (arith, a.stands.tokens_end, b.stands.tokens_end, length-append (yield t) (yields f));
        };
      }

  pub children_split : (h : DescribedAll g us bytes at from (x ∷ xs) d n e) → Split g us bytes at from x xs d n e h.trees
  children_split h = go h.trees h.evaluated h.shallow h.stands
    where
      go : (f : Forest) → WellEvaluateds g f (x ∷ xs) → depths f ≤ d → BytesStand us bytes at from (sheets from f) (yields f) n e → Split g us bytes at from x xs d n e f
      go no_trees k l s = absurd k
      go (tree_and t f) k l s =
          let i : ℕ = from + length (yield t) in
          let w : drop at bytes ≡ sheet from t ++ (sheets i f ++ drop n bytes) = s.written ∙ append_assoc (sheet from t) (sheets i f) (drop n bytes) in
          let r : drop from us ≡ yield t ++ (yields f ++ drop e us) = s.tokens ∙ append_assoc (yield t) (yields f) (drop e us) in
          let m : ℕ = at + length (sheet from t) in
          let wm : drop m bytes ≡ sheets i f ++ drop n bytes = drop_past bytes (sheet from t) (sheets i f ++ drop n bytes) at w in
          let rm : drop i us ≡ yields f ++ drop e us = drop_past us (yield t) (yields f ++ drop e us) from r in
          record {
            mid = m;
            seam = i;
            first = record { tree = t; evaluated = k.0; shallow = omega (arith, l); stands = record { written = w ∙ ap (λ z. sheet from t ++ z) (sym wm); sheet_end = refl; tokens = r ∙ ap (λ z. yield t ++ z) (sym rm); tokens_end = refl } };
            others = record { trees = f; evaluated = k.1; shallow = omega (arith, l); stands = record { written = wm; sheet_end = omega (arith, s.sheet_end, length-append (sheet from t) (sheets i f)); tokens = rm; tokens_end = omega (arith, s.tokens_end, length-append (yield t) (yields f)) } };
            joined = refl;
          }
