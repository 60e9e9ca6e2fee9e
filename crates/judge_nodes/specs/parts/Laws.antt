-- What each way out of a node, of its children and of a token shows.
use Rattle.std.specs.Prelude as Std
use Rattle.std.specs.Prelude.{Option, ◌≡◌, ℕ, suc, ◌+◌, ◌-◌, ◌*◌, ◌<◌, ◌≤◌, Bool, true, false, cond, List, length, get_or, ℤ, pos, ◌==◌, ◌≢◌, slice_index, slice_index_or, slice_set, refl}
use Rattle.std.proofs.Common.{arith, ap, ap₂, ◌∙◌, subst₂, length-set, eqb-true, get_or-set_same, get_or-set_other}
use Rattle.std.proofs.Math.Path.{sym, subst}
use Rattle.std.proofs.lemmas.Bool.{eqb-false}
use Rattle.meaning.specs.Limits.{attributes_limit, positions_limit, productions_limit, symbols_limit}
use Rattle.meaning.specs.Base.{all}
use Rattle.meaning.specs.Grammar.{Grammar, terminal, nonterminal, att, nonterminal_count, production_at, nonterminal_base}
use Rattle.meaning.specs.Rules.{Known}
use Rattle.meaning.specs.Table.{byte, symbol_of}
use Rattle.meaning.specs.Value.{in_range}
use Rattle.theory_base.specs.Members.{T→true, true→T, get_d_in}
use Rattle.theory_base.specs.WellFormed.{well_formed_at, counts_most}
use Rattle.value.specs.Constants.{word_at}
use Rattle.program_block_words.specs.Fields.{Listed}
use Rattle.outline.specs.Images as R
use Rattle.outline.specs.Images.{ImageOf, HasRow, row_count, size_at, byte_at, symbol_terminal, symbol_nonterminal}
use Rattle.outline.specs.Outline.{grammar_in}
use Rattle.program_words.specs.Fields.{fields_from, stretch_end, fields_place, fields_own}
use Rattle.theory_judge.specs.Longs.{longs}
use Rattle.theory_judge.specs.Described.{Described, DescribedAll, no_leaf, Heading}
use Rattle.theory_judge.specs.Holding.{all_true, listed_true}
use Rattle.theory_judge.specs.Marks.{read_at, mark_of, leaf_at, leaves_many, leaf_in}
use Rattle.theory_judge.specs.Passing as P
use Rattle.theory_judge.specs.Passing.{Only, None, Marked}
use Rattle.judge_nodes.specs.parts.Checked.{fields_of, Book, leaves_in, EndsOrNone, TokenEnds, NodeReady, NodeEnds, ChildrenReady, EndsAndMarks, ChildrenEnds, NodeIs, Holdable, closing, ChildrenPassed}
use Rattle.judge_nodes.specs.head.Laws.{head_none}
use Rattle.judge_nodes.specs.head.Heads.{Heads, HeadIs, HeadOrNone}
use Rattle.judge_nodes.specs.declared.parts.Subtree.{Subtree}
use Rattle.judge_nodes.specs.declared.parts.Node.{Node}
use Rattle.judge_nodes.specs.declared.parts.Ends.{Ends}
use Rattle.judge_nodes.specs.declared.head.Head.{Head}

-- ---- answers

abbrev pub fits : ℕ → ℕ → Option Ends
fits n e = Std.Some (record { next = n; end = e })

pub fits_by_ends : {P : ℕ → ℕ → Type 0} (n e : ℕ) → Only P n e → EndsOrNone P (fits n e)
unfolding EndsOrNone
fits_by_ends n e h = h

pub wrong_by_none : {P : ℕ → ℕ → Type 0} → None P → EndsOrNone P Std.None
unfolding EndsOrNone
wrong_by_none h = h

pub ends_of_fits : {P : ℕ → ℕ → Type 0} (r : Option Ends) (n e : ℕ) → EndsOrNone P r → r ≡ fits n e → Only P n e
unfolding EndsOrNone
ends_of_fits {P = P} r n e t q = subst (λ z. EndsOrNone P z) q t

pub none_of_wrong : (P : ℕ → ℕ → Type 0) (r : Option Ends) → EndsOrNone P r → r ≡ Std.None → None P
unfolding EndsOrNone
none_of_wrong P r t q = subst (λ z. EndsOrNone P z) q t

-- ---- symbols by their bytes

pub mark_low : (n b at from : ℕ) → b < nonterminal_base → n + from ≡ mark_of n (symbol_of b) at from
mark_low n b at from l = sym (ap (λ x. mark_of n x at from) (symbol_terminal b l))

pub mark_high : (n b at from : ℕ) → nonterminal_base ≤ b → at ≡ mark_of n (symbol_of b) at from
mark_high n b at from l = sym (ap (λ x. mark_of n x at from) (symbol_nonterminal b l))

-- ---- a token

module _ (ks : List ℕ) (vs : List ℤ) (at from k : ℕ) where
  pub token_over : length ks ≤ from → TokenEnds ks vs at from k Std.None
  token_over l g sheet d e = wrong_by_none (P.token_over g (leaves_in g ks vs) sheet at from k d (omega (arith, leaves_many g ks vs e)))

  kind_is_lem : (g : Grammar) → length ks ≡ length vs → from < length ks → (get_or (leaves_in g ks vs) from no_leaf).kind ≡ slice_index ks from
  kind_is_lem g e l = ap (λ u. u.kind) (leaf_at g ks vs from (omega (arith, leaves_many g ks vs e)))

  pub token_other : from < length ks → (slice_index ks from ≢ k) → TokenEnds ks vs at from k Std.None
  token_other l f g sheet d e = wrong_by_none (P.token_other g (leaves_in g ks vs) sheet at from k d (λ q. f (sym (kind_is_lem g e l) ∙ q)))

  pub token_fits : from < length ks → slice_index ks from ≡ k → in_range (slice_index_or vs from (pos 0)) ≡ true → TokenEnds ks vs at from k (fits at (from + 1))
  token_fits l q i g sheet d e =
      let m : from < length (leaves_in g ks vs) = omega (arith, leaves_many g ks vs e) in
      fits_by_ends at (from + 1) (P.token_fits g (leaves_in g ks vs) sheet at from k d (leaf_in g ks vs from m i) m (kind_is_lem g e l ∙ q))

-- ---- a book

module _ {table rows inherited synthesized offsets ks : List ℕ} {vs : List ℤ} {sheet : List ℕ} (b : Book table rows inherited synthesized offsets ks vs sheet) where
  abbrev g : Grammar
  g = grammar_in table

  abbrev rows_of : ImageOf rows (row_count rows) g
  rows_of = b.productions.rows_of

  many : length (leaves_in g ks vs) ≡ length ks
  many = leaves_many g ks vs b.even

  few : length (leaves_in g ks vs) < 4294967296
  few = omega (arith, many, b.few)

  pub productions_few : (p : ℕ) → p < length g.productions → p < productions_limit
  productions_few p l = omega (arith, rows_of.sound.productions.1)

  pub counts_are : (n : ℕ) → n < nonterminal_count g → byte inherited n + byte synthesized n ≡ att g (nonterminal n)
  counts_are n l = ap₂ ◌+◌ (b.counts.inherits n l) (b.counts.synthesizes n l)

  pub row_at : (p : ℕ) → p < length g.productions → p < row_count rows
  row_at p l = omega (arith, rows_of.counted)

  pub attributes_few : (n : ℕ) → n < nonterminal_count g → byte inherited n + byte synthesized n ≤ attributes_limit
  attributes_few n l = omega (arith, counts_are n l, counts_most g rows_of.sound n)

  pub span_inside : (p : ℕ) → p < length g.productions → (fields_from rows offsets p ≤ stretch_end table offsets (row_count rows) p) × (stretch_end table offsets (row_count rows) p ≤ length table)
  span_inside p l = fields_place b.productions b.is_table p (row_at p l) _ _ refl refl

  -- the rules and conditions of a production, as its fields list them
  abbrev pub listed_at : (p : ℕ) → p < length g.productions → Listed (fields_of table rows offsets p)
  listed_at p l =
      let w = well_formed_at g rows_of.sound p l in
      record { rules = (production_at g p).rules; conditions = (production_at g p).conditions; own = fields_own b.productions b.is_table p (row_at p l) _ _ refl refl; constants = w.constants; proper = w.proper }

  module _ (at from m : ℕ) (k : m < nonterminal_count g) where
    heading_of : Heads rows inherited synthesized sheet at from m → Heading g sheet at from m
    heading_of h =
        let l : word_at sheet at < length g.productions = omega (arith, h.listed, rows_of.counted) in
        record {
          inside = omega (arith, h.inside, counts_are m k);
          listed = l;
          left = sym (rows_of.left (word_at sheet at) (row_at (word_at sheet at) l)) ∙ h.left;
          before = h.before;
          ranges = true→T _ (ap (λ n. all in_range (longs sheet (at + 12) n)) (sym (counts_are m k)) ∙ h.ranges);
        }

    heads_of : Heading g sheet at from m → Heads rows inherited synthesized sheet at from m
    heads_of h = record {
      inside = omega (arith, h.inside, counts_are m k);
      listed = omega (arith, h.listed, rows_of.counted);
      left = rows_of.left (word_at sheet at) (row_at (word_at sheet at) h.listed) ∙ h.left;
      before = h.before;
      ranges = ap (λ n. all in_range (longs sheet (at + 12) n)) (counts_are m k) ∙ T→true _ h.ranges;
    }

-- ---- a node

module _ {table rows inherited synthesized offsets ks : List ℕ} {vs : List ℤ} {sheet : List ℕ} {from symbol : ℕ} (x : NodeReady table rows inherited synthesized offsets ks vs sheet from symbol) (at d : ℕ) where
  abbrev gr : Grammar
  gr = grammar_in table

  abbrev Here : ℕ → ℕ → Type 0
  Here = Described gr (leaves_in gr ks vs) sheet at from (symbol_of symbol) d

  pub by_token : symbol < nonterminal_base → (r : Option Ends) → TokenEnds ks vs at from symbol r → EndsOrNone Here r
  by_token l r t = subst (λ y. EndsOrNone (Described gr (leaves_in gr ks vs) sheet at from y d) r) (sym (symbol_terminal symbol l)) (t gr sheet d x.book.even)

  module _ (big : nonterminal_base ≤ symbol) where
    abbrev m : ℕ
    m = symbol - nonterminal_base

    pub known_m : m < nonterminal_count gr
    known_m = subst (Known gr) (symbol_nonterminal symbol big) x.known

    low : from ≤ length (leaves_in gr ks vs)
    low = omega (arith, many x.book, x.low)

    none_here : None (Described gr (leaves_in gr ks vs) sheet at from (nonterminal m) d) → EndsOrNone Here Std.None
    none_here h = wrong_by_none (subst (λ y. None (Described gr (leaves_in gr ks vs) sheet at from y d)) (sym (symbol_nonterminal symbol big)) h)

    pub flat : d ≡ 0 → EndsOrNone Here Std.None
    flat z = none_here (P.node_flat gr x.book.productions.rows_of.sound ks vs (few x.book) sheet x.book.is_bytes at from m d low z)

    pub unfit : (r : Option Head) → HeadOrNone rows inherited synthesized sheet at from m r → r ≡ Std.None → EndsOrNone Here Std.None
    unfit r t e = none_here (P.node_unfit gr x.book.productions.rows_of.sound ks vs (few x.book) sheet x.book.is_bytes at from m d low (λ h. head_none rows inherited synthesized sheet at from m r t e (heads_of x.book at from m known_m h)))

    module _ (p behind covered : ℕ) (is : HeadIs rows inherited synthesized sheet at from m p behind covered) where
      pub here : Heading gr sheet at from m
      here = heading_of x.book at from m known_m is.heads

      abbrev pub ready : ChildrenReady table rows inherited synthesized offsets ks vs sheet p from
      ready = record { book = x.book; listed = subst (λ q. q < length gr.productions) (sym is.production) here.listed; low = x.low }

      behind_is : behind ≡ at + 12 + 8 * att gr (nonterminal m)
      behind_is = is.next ∙ ap (λ n. at + 12 + 8 * n) (counts_are x.book m known_m)

      module _ (old new : List ℕ) (a : Option Ends) (below : ChildrenEnds table rows inherited synthesized offsets ks vs sheet p behind from (d - 1) old new a) where
        -- the same with the record's own numbers
        ends_there : EndsAndMarks gr ks vs sheet (word_at sheet at) (at + 12 + 8 * att gr (nonterminal m)) from (d - 1) old new a
        ends_there = subst (λ q. EndsAndMarks gr ks vs sheet q (at + 12 + 8 * att gr (nonterminal m)) from (d - 1) old new a) is.production (subst (λ q. EndsAndMarks gr ks vs sheet p q from (d - 1) old new a) behind_is (below ready))

        pub wrong : a ≡ Std.None → EndsOrNone Here Std.None
        unfolding EndsAndMarks
        wrong e = none_here (P.node_wrong gr x.book.productions.rows_of.sound ks vs (few x.book) sheet x.book.is_bytes at from m d low (subst (λ z. EndsAndMarks gr ks vs sheet (word_at sheet at) (at + 12 + 8 * att gr (nonterminal m)) from (d - 1) old new z) e ends_there))

        module _ (n e : ℕ) (ended : a ≡ fits n e) where
          abbrev Got : Type 0
          Got =
              Only (DescribedAll gr (leaves_in gr ks vs) sheet (at + 12 + 8 * att gr (nonterminal m)) from (production_at gr (word_at sheet at)).right (d - 1)) n e
              × Marked gr (leaves_in gr ks vs) sheet vs (at + 12 + 8 * att gr (nonterminal m)) from (production_at gr (word_at sheet at)).right (d - 1) new
              × (slice_index new 0 ≡ slice_index old 0)
              × (length new ≡ positions_limit)

          got : Got
          unfolding EndsAndMarks
          got = subst (λ z. EndsAndMarks gr ks vs sheet (word_at sheet at) (at + 12 + 8 * att gr (nonterminal m)) from (d - 1) old new z) ended ends_there

          pub thirteen : length new ≡ positions_limit
          thirteen = got.3

          pub from_end : from ≤ e
          from_end = let s = got.0.0.stands.tokens_end in omega (arith, s)

          uncovered : (e - from ≢ covered) → EndsOrNone Here Std.None
          uncovered f = none_here (P.node_uncovered gr x.book.productions.rows_of.sound ks vs (few x.book) sheet x.book.is_bytes at from m d low n e got.0 (λ q. f (q ∙ sym is.covers)))

          module _ (first : get_or old 0 0 ≡ at) where
            abbrev pub h : Bool
            h = listed_true (read_at sheet vs new) (listed_at x.book p ready.listed)

            truth : h ≡ all_true (read_at sheet vs new) (production_at gr (word_at sheet at)).rules (production_at gr (word_at sheet at)).conditions
            truth = subst (λ q. h ≡ all_true (read_at sheet vs new) (production_at gr q).rules (production_at gr q).conditions) is.production refl

            unheld : h ≡ false → EndsOrNone Here Std.None
            unheld f = none_here (P.node_false gr x.book.productions.rows_of.sound ks vs (few x.book) sheet x.book.is_bytes at from m d low n e got.0 here new (got.2 ∙ first) got.1 (sym truth ∙ f))

            fitting : 0 < d → e - from ≡ covered → h ≡ true → EndsOrNone Here (fits n e)
            fitting deep c f =
                fits_by_ends n e
                (subst (λ y. Only (Described gr (leaves_in gr ks vs) sheet at from y d) n e) (sym (symbol_nonterminal symbol big))
                (P.node_fits gr x.book.productions.rows_of.sound ks vs (few x.book) sheet x.book.is_bytes at from m d low n e got.0 here new (got.2 ∙ first) got.1 deep (c ∙ is.covers) (sym truth ∙ f)))

            -- by the tokens covered and by whether the rules and conditions hold
            pub closes : 0 < d → EndsOrNone Here (cond (e - from == covered) (cond h (fits n e) Std.None) Std.None)
            closes deep = go (e - from == covered) h refl refl
              where
                go : (b c : Bool) → (e - from == covered) ≡ b → h ≡ c → EndsOrNone Here (cond b (cond c (fits n e) Std.None) Std.None)
                go true true z f = fitting deep (eqb-true (e - from) covered z) f
                go true false z f = unheld f
                go false c z f = uncovered (eqb-false (e - from) covered z)

-- ---- a node, by what was judged before its children

module _ {table rows inherited synthesized offsets ks : List ℕ} {vs : List ℤ} {sheet : List ℕ} {tree : Subtree} (x : NodeReady table rows inherited synthesized offsets ks vs sheet tree.from tree.symbol) (node : Node) (i : NodeIs rows inherited synthesized sheet tree node) where
  abbrev own : ChildrenReady table rows inherited synthesized offsets ks vs sheet node.production tree.from
  own = ready x tree.at tree.depth i.big node.production node.behind node.covered i.is

  pub children_ready : ChildrenReady table rows inherited synthesized offsets ks vs sheet node.production node.from
  children_ready = subst (ChildrenReady table rows inherited synthesized offsets ks vs sheet node.production) (sym i.from) own

  pub holdable : Holdable table rows offsets node.production
  holdable =
      let l = own.listed in
      record {
        few = productions_few x.book node.production l;
        from = (span_inside x.book node.production l).0;
        to = (span_inside x.book node.production l).1;
        listed = listed_at x.book node.production l;
        row = omega (arith, l, x.book.productions.rows_of.counted);
      }

  module _ (old new : List ℕ) (a : Option Ends) (below : ChildrenEnds table rows inherited synthesized offsets ks vs sheet node.production node.behind node.from node.depth old new a) where
    -- the same with the tree's numbers
    below_there : ChildrenEnds table rows inherited synthesized offsets ks vs sheet node.production node.behind tree.from (tree.depth - 1) old new a
    below_there = subst₂ (λ f d. ChildrenEnds table rows inherited synthesized offsets ks vs sheet node.production node.behind f d old new a) i.from i.less below

    pub node_wrong : a ≡ Std.None → EndsOrNone (Here x tree.at tree.depth) Std.None
    node_wrong = wrong x tree.at tree.depth i.big node.production node.behind node.covered i.is old new a below_there

    module _ (n e : ℕ) (ended : a ≡ fits n e) where
      pub node_thirteen : length new ≡ positions_limit
      node_thirteen = thirteen x tree.at tree.depth i.big node.production node.behind node.covered i.is old new a below_there n e ended

      pub node_from : node.from ≤ e
      node_from = omega (arith, from_end x tree.at tree.depth i.big node.production node.behind node.covered i.is old new a below_there n e ended, i.from)

      pub node_closed : get_or old 0 0 ≡ tree.at → (r : Option Ends) → ((y : Listed (fields_of table rows offsets node.production)) → r ≡ closing (listed_true (read_at sheet vs new) y) node (record { next = n; end = e })) → EndsOrNone (Here x tree.at tree.depth) r
      node_closed first r c =
          let y = listed_at x.book node.production own.listed in
          let is : r ≡ cond (e - tree.from == node.covered) (cond (listed_true (read_at sheet vs new) y) (fits n e) Std.None) Std.None = c y ∙ ap (λ f. cond (e - f == node.covered) (cond (listed_true (read_at sheet vs new) y) (fits n e) Std.None) Std.None) i.from in
          subst (EndsOrNone (Here x tree.at tree.depth)) (sym is)
          (closes x tree.at tree.depth i.big node.production node.behind node.covered i.is old new a below_there n e ended first i.deep)

-- ---- children

module _ {table rows inherited synthesized offsets ks : List ℕ} {vs : List ℤ} {sheet : List ℕ} {p from : ℕ} where
  pub size_is : (x : ChildrenReady table rows inherited synthesized offsets ks vs sheet p from) → size_at rows p ≡ length (production_at (grammar_in table) p).right
  size_is x = R.size_is x.book.productions.rows_of p (row_at x.book p x.listed)

  pub size_few : (x : ChildrenReady table rows inherited synthesized offsets ks vs sheet p from) → size_at rows p ≤ symbols_limit
  size_few x = omega (arith, size_is x, (well_formed_at (grammar_in table) x.book.productions.rows_of.sound p x.listed).short)

  pub row_inside : (x : ChildrenReady table rows inherited synthesized offsets ks vs sheet p from) → HasRow rows p
  row_inside x = omega (arith, x.listed, x.book.productions.rows_of.counted)

module _ {table rows inherited synthesized offsets ks : List ℕ} {vs : List ℤ} {sheet : List ℕ} {p at from d : ℕ} {marks₀ : List ℕ} where
  pub passed_none : length marks₀ ≡ positions_limit → ChildrenPassed table rows inherited synthesized offsets ks vs sheet p at from d marks₀ 0 at from marks₀
  passed_none l = record {
    long = l;
    own = refl;
    upto = λ x. P.upto_none (grammar_in table) x.book.productions.rows_of.sound ks vs (few x.book) sheet at from (production_at (grammar_in table) p).right d (omega (arith, many x.book, x.low)) marks₀;
  }

  module _ {k next end : ℕ} {marks : List ℕ} (s : ChildrenPassed table rows inherited synthesized offsets ks vs sheet p at from d marks₀ k next end marks) where
    pub end_inside : (x : ChildrenReady table rows inherited synthesized offsets ks vs sheet p from) → end ≤ length ks
    end_inside x = omega (arith, (s.upto x).inside, many x.book)

    pub end_small : (x : ChildrenReady table rows inherited synthesized offsets ks vs sheet p from) → end < 4294967296
    end_small x = omega (arith, end_inside x, x.book.few)

    module _ (l : k < size_at rows p) (symbol : ℕ) (e : symbol ≡ byte_at rows p k) where
      pub at_hand : (x : ChildrenReady table rows inherited synthesized offsets ks vs sheet p from) → symbol_of symbol ≡ slice_index_or (production_at (grammar_in table) p).right k (terminal 0)
      at_hand x = ap symbol_of e ∙ R.symbol_is x.book.productions.rows_of p (row_at x.book p x.listed) k (omega (arith, size_is x))

      abbrev pub node_ready : (x : ChildrenReady table rows inherited synthesized offsets ks vs sheet p from) → NodeReady table rows inherited synthesized offsets ks vs sheet end symbol
      node_ready x = record {
        book = x.book;
        known = subst (Known (grammar_in table)) (sym (at_hand x)) ((well_formed_at (grammar_in table) x.book.productions.rows_of.sound p x.listed).symbols _ (get_d_in (production_at (grammar_in table) p).right k (terminal 0) (omega (arith, size_is x))));
        low = end_inside x;
      }

      module _ (r : Option Ends) (t : NodeEnds table rows inherited synthesized offsets ks vs sheet next end symbol d r) where
        node_ends : (x : ChildrenReady table rows inherited synthesized offsets ks vs sheet p from) → EndsOrNone (Described (grammar_in table) (leaves_in (grammar_in table) ks vs) sheet next end (slice_index_or (production_at (grammar_in table) p).right k (terminal 0)) d) r
        node_ends x = subst (λ y. EndsOrNone (Described (grammar_in table) (leaves_in (grammar_in table) ks vs) sheet next end y d) r) (at_hand x) (t (node_ready x))

        pub passed_wrong : (new : List ℕ) → r ≡ Std.None → ChildrenEnds table rows inherited synthesized offsets ks vs sheet p at from d marks₀ new Std.None
        unfolding EndsAndMarks
        passed_wrong new w x = P.upto_wrong (grammar_in table) x.book.productions.rows_of.sound ks vs (few x.book) sheet at from (production_at (grammar_in table) p).right d k next end marks (s.upto x) (omega (arith, size_is x)) (none_of_wrong _ r (node_ends x) w)

        pub passed_more : (n₁ e₁ : ℕ) → r ≡ fits n₁ e₁ → k + 1 < positions_limit → (mark : ℕ) → mark ≡ mark_of (length sheet) (symbol_of symbol) next end → ChildrenPassed table rows inherited synthesized offsets ks vs sheet p at from d marks₀ (k + 1) n₁ e₁ (slice_set marks (k + 1) mark)
        passed_more n₁ e₁ w short mark em = record {
          long = length-set marks (k + 1) mark ∙ s.long;
          own = get_or-set_other marks (k + 1) 0 mark 0 (λ q. omega arith) ∙ s.own;
          upto = λ x.
              P.upto_more (grammar_in table) x.book.productions.rows_of.sound ks vs (few x.book) sheet at from (production_at (grammar_in table) p).right d k next end marks (s.upto x) (omega (arith, size_is x))
              n₁ e₁ (ends_of_fits r n₁ e₁ (node_ends x) w) (slice_set marks (k + 1) mark) (λ i j. get_or-set_other marks (k + 1) (suc i) mark 0 (λ q. omega arith)) (new_mark x);
        }
          where
            new_mark : (x : ChildrenReady table rows inherited synthesized offsets ks vs sheet p from) → slice_index (slice_set marks (k + 1) mark) (suc k) ≡ mark_of (length sheet) (slice_index_or (production_at (grammar_in table) p).right k (terminal 0)) next end
            new_mark x =
                let one : suc k ≡ k + 1 = omega arith in
                ap (λ i. slice_index (slice_set marks (k + 1) mark) i) one ∙ (get_or-set_same marks (k + 1) mark 0 (omega (arith, s.long)) ∙ (em ∙ ap (λ y. mark_of (length sheet) y next end) (at_hand x)))

    pub passed_end : size_at rows p ≡ k → ChildrenEnds table rows inherited synthesized offsets ks vs sheet p at from d marks₀ marks (fits next end)
    unfolding EndsAndMarks
    passed_end l x =
        let e : k ≡ length (production_at (grammar_in table) p).right = sym l ∙ size_is x in (
          P.upto_end (grammar_in table) x.book.productions.rows_of.sound ks vs (few x.book) sheet at from (production_at (grammar_in table) p).right d k next end marks (s.upto x) (omega arith),
          P.upto_marked (grammar_in table) x.book.productions.rows_of.sound ks vs (few x.book) sheet at from (production_at (grammar_in table) p).right d k next end marks (s.upto x) (omega arith) e,
          s.own,
          s.long,
        )
