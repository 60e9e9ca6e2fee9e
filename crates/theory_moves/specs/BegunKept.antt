-- A part that has begun a given tree: each move from it leads to a part that has begun the same tree.
use Rattle.std.specs.Prelude.{ℕ, suc, ◌<◌, ◌≡◌, refl, length, drop, replicate, ℤ}
use Rattle.std.proofs.Common.{arith, sym, ap, ◌∙◌, subst, inl, inr, drop-cons, drop_at, take_at}
use mathlib.Core.List.{List, [], ◌∷◌, ◌++◌, append_assoc, append_cancel_left, head-eq_of_cons-eq}
use Rattle.meaning.specs.Base.{keep, In}
use Rattle.theory_answers.specs.Runs.{look_is}
use Rattle.meaning.specs.Grammar.{Grammar, Production, Symbol, terminal, nonterminal, inh, syn, production_at, symbol_at, Leaf}
use Rattle.meaning.specs.Value.{mark}
use Rattle.meaning.specs.Machine.{look_at, alternatives, entered, Coming, as_look, comes}
use Rattle.meaning.specs.Tree.{Tree, Forest, leaf, node, tree_and, child, yield, yields, inherited_of, synthesized_of, waiting, WellEvaluated, WellEvaluateds}
use Rattle.meaning.specs.Rules.{WellFormed}
use Rattle.meaning.specs.Part.{Open, Point, fresh, added, valued, left, closing, Ancestor, Part, yields_of, yield_below, forest_onto, marks, draw_below, draw_registers, Handed, GoodNode, Stands, Good, Reaches, PartOf}
use Rattle.theory_base.specs.Selectors.{syn_size}
use Rattle.theory_base.specs.Values.{yields_onto, tree_of, complete}
use Rattle.theory_sound.specs.MovesKeepPart.{Grown, within, reads, predicts, removes, node_of, part_of, waiting_at, with_child, node_evaluable}
use Rattle.theory_complete.specs.PredictsOfWalk.{Chosen, Foreseen, Foreseens}
use Rattle.theory_moves.specs.ChildrenToCome.{ahead_child, ahead_evaluated, ahead_foreseen, Next, next_child}
use Rattle.theory_moves.specs.NodeOnAncestors.{Along, along_node, along_below, along_yield, Sits, along_sits, along_evaluated}
use Rattle.theory_moves.specs.Determined.{same_handed, same_node}

-- the open node o on the ancestors bs begins t's node there
pub record Begun (g : Grammar) (t : Tree) (o : Open) (bs : List Ancestor) : Type 0 where
  pub values : List ℤ
  pub ahead : Forest
  pub rest : List Leaf
  pub along : Along g t bs (node o.production values (forest_onto o.children ahead)) rest
  pub inherited : inherited_of g (node o.production values (forest_onto o.children ahead)) ≡ o.inherited

-- what is still to come of the tree is what is still to come of the segment
pub still : (g : Grammar) (t : Tree) (o : Open) (bs : List Ancestor) (b : Begun g t o bs) (ts us : List Leaf) → yield_below bs ++ yields_of o.children ≡ ts → yield t ≡ ts ++ us → yields b.ahead ++ b.rest ≡ us
still g t o bs b ts us r y =
    let own : yields (forest_onto o.children b.ahead) ++ b.rest ≡ yields_of o.children ++ (yields b.ahead ++ b.rest) = ap (λ z. z ++ b.rest) (yields_onto o.children b.ahead) ∙ append_assoc (yields_of o.children) (yields b.ahead) b.rest in
    let split : yield t ≡ ts ++ (yields b.ahead ++ b.rest) = along_yield g t bs _ b.rest b.along ∙ (ap (λ z. yield_below bs ++ z) own ∙ (sym (append_assoc (yield_below bs) (yields_of o.children) (yields b.ahead ++ b.rest)) ∙ ap (λ z. z ++ (yields b.ahead ++ b.rest)) r)) in
    append_cancel_left ts (yields b.ahead ++ b.rest) us (sym split ∙ y)

only_leaf : (g : Grammar) (u : Tree) (x : Symbol) (k : ℕ) → WellEvaluated g u x → x ≡ terminal k → (d : Leaf) × (u ≡ leaf d)
only_leaf g (leaf d) x k w e = (d, refl)
only_leaf g (node p vs f) x k w e = let s = w.0.symbol in let z : ◌≡◌ {A = ℕ} 0 1 = cc in absurd (omega arith)

module _ (g : Grammar) (formed : WellFormed g) (t : Tree) (w : WellEvaluated g t (nonterminal g.start)) (fore : Foreseen g [] t) where
  begun_sits : (o : Open) (bs : List Ancestor) (b : Begun g t o bs) → Sits g o.production b.values (forest_onto o.children b.ahead) b.rest
  begun_sits o bs b = along_sits g formed t w fore bs o.production b.values (forest_onto o.children b.ahead) b.rest b.along

  -- the tree's next child
  next_of : (o : Open) (bs : List Ancestor) (b : Begun g t o bs) (x : Symbol) (xs : List Symbol) → drop (length o.children) (production_at g o.production).right ≡ x ∷ xs → Next g b.ahead x
  next_of o bs b x xs d = next_child g b.ahead x xs (subst (WellEvaluateds g b.ahead) d (ahead_evaluated g o.children b.ahead (production_at g o.production).right (begun_sits o bs b).evaluated.children))

  -- the values handed to it are the tree's
  next_handed : (o : Open) (bs : List Ancestor) (b : Begun g t o bs) (x : Symbol) (is : List ℤ) (xs : List Symbol) → GoodNode g o (valued x is xs) → inherited_of g (child (forest_onto o.children b.ahead) (length o.children)) ≡ is
  next_handed o bs b x is xs gn =
      let p : Production = production_at g o.production in
      same_handed g p b.values o.children b.ahead x xs is (begun_sits o bs b).evaluated gn.1.0 (subst (λ z. Handed g p z o.children x is) (sym b.inherited) gn.1.2)

  -- ---- one child more

  begun_more : (o : Open) (bs : List Ancestor) (b : Begun g t o bs) (u : Tree) (f : Forest) → b.ahead ≡ tree_and u f → Begun g t (with_child o u) bs
  begun_more o bs b u f e = record {
    values = b.values;
    ahead = f;
    rest = b.rest;
    along = subst (λ z. Along g t bs (node o.production b.values (forest_onto o.children z)) b.rest) e b.along;
    inherited = b.inherited;
  }

  -- the token read is the tree's: its kind and its values
  begun_read : (o : Open) (bs : List Ancestor) (c : Leaf) (xs : List Symbol) → Good g (part_of (with_child o (leaf c)) (left xs) bs) → (us : List Leaf) → look_at us ≡ comes c → (b : Begun g t o bs) → yields b.ahead ++ b.rest ≡ us → Begun g t (with_child o (leaf c)) bs
  begun_read o bs c xs gd us look b pos =
      let p : Production = production_at g o.production in
      let l = gd.node.0.lefts in
      let k = length o.children in
      let n = next_of o bs b (symbol_at p (suc k)) (drop (suc k) p.right) (drop-cons p.right k (terminal 0) l.0) in
      let d = only_leaf g n.tree (symbol_at p (suc k)) c.kind n.evaluated l.1.0 in
      let z : d.0 ∷ (yields n.after ++ b.rest) ≡ c ∷ drop 1 us = ap (λ u. yields (tree_and u n.after) ++ b.rest) (sym d.1) ∙ (ap (λ y. yields y ++ b.rest) (sym n.is_next) ∙ (pos ∙ look_is us c look)) in
      let e : d.0 ≡ c = head-eq_of_cons-eq z in
      begun_more o bs b (leaf c) n.after (n.is_next ∙ ap (λ u. tree_and u n.after) (d.1 ∙ ap leaf e))

  -- ---- the production predicted is the tree's

  same_production : (o : Open) (bs : List Ancestor) (p q : ℕ) (vs ws : List ℤ) (h f : Forest) (rest us : List Leaf) (ys xs : List Symbol) (x : Symbol)
      → x ≡ nonterminal (production_at g p).left → WellEvaluated g (node q ws h) x → Chosen g (yields f ++ rest) q ws h → inherited_of g (node q ws h) ≡ vs
      → yields (tree_and (node q ws h) f) ++ rest ≡ us
      → In p (keep (entered g (draw_registers g (part_of (node_of p vs []) (fresh ys) (waiting_at o x xs ∷ bs)))) (alternatives g (production_at g p).left (as_look (look_at us)))) → p ≡ q
  same_production o bs p q vs ws h f rest us ys xs x e v c i pos pick = one (subst (In p) (same ∙ c below) pick)
    where
      below : List ℤ
      below = draw_below g (waiting_at o x xs ∷ bs)

      one : In p (q ∷ []) → p ≡ q
      one (inl z) = z
      one (inr z) = absurd z

      lefts : (production_at g p).left ≡ (production_at g q).left
      lefts = let s = v.0.symbol in cc

      size : syn g (nonterminal (production_at g p).left) ≡ length (synthesized_of g (node q ws h))
      size = ap (syn g) (sym e) ∙ sym (syn_size g (node q ws h) x v)

      registers : draw_registers g (part_of (node_of p vs []) (fresh ys) (waiting_at o x xs ∷ bs)) ≡ waiting g (node q ws h) ++ below
      registers = sym (append_assoc vs (marks (syn g (nonterminal (production_at g p).left))) below) ∙ (λ j. (sym i j ++ replicate (size j) mark) ++ below)

      stream : us ≡ yields h ++ (yields f ++ rest)
      stream = sym pos ∙ append_assoc (yields h) (yields f) rest

      same : keep (entered g (draw_registers g (part_of (node_of p vs []) (fresh ys) (waiting_at o x xs ∷ bs)))) (alternatives g (production_at g p).left (as_look (look_at us)))
          ≡ keep (entered g (waiting g (node q ws h) ++ below)) (alternatives g (production_at g q).left (as_look (look_at (yields h ++ (yields f ++ rest)))))
      same = λ j. keep (entered g (registers j)) (alternatives g (lefts j) (as_look (look_at (stream j))))

  begun_below : (o : Open) (bs : List Ancestor) (b : Begun g t o bs) (p : ℕ) (ws vs : List ℤ) (h f : Forest) (x : Symbol) (xs : List Symbol) → b.ahead ≡ tree_and (node p ws h) f → inherited_of g (node p ws h) ≡ vs → Begun g t (node_of p vs []) (waiting_at o x xs ∷ bs)
  begun_below o bs b p ws vs h f x xs e i = record {
    values = ws;
    ahead = h;
    rest = yields f ++ b.rest;
    along = record {
      values = b.values;
      after = f;
      later = b.rest;
      parent = subst (λ z. Along g t bs (node o.production b.values (forest_onto o.children z)) b.rest) e b.along;
      inherited = b.inherited;
      is_rest = refl;
    };
    inherited = i;
  }

  begun_predict : (o : Open) (bs : List Ancestor) (p : ℕ) (vs : List ℤ) (ys : List Symbol) (x : Symbol) (xs : List Symbol) (us : List Leaf) → Good g (part_of (node_of p vs []) (fresh ys) (waiting_at o x xs ∷ bs))
      → In p (keep (entered g (draw_registers g (part_of (node_of p vs []) (fresh ys) (waiting_at o x xs ∷ bs)))) (alternatives g (production_at g p).left (as_look (look_at us))))
      → (b : Begun g t o bs) → yields b.ahead ++ b.rest ≡ us → Begun g t (node_of p vs []) (waiting_at o x xs ∷ bs)
  begun_predict o bs p vs ys x xs us gd pick b pos =
      let foreseen = subst (Foreseens g b.rest) n.is_next (ahead_foreseen g b.rest o.children b.ahead (begun_sits o bs b).foreseen) in
      let is_child = ap (λ z. child (forest_onto o.children z) (length o.children)) n.is_next ∙ ahead_child o.children n.tree n.after in
      go n.tree n.is_next n.evaluated foreseen.0 (ap (inherited_of g) (sym is_child) ∙ next_handed o bs b x vs xs gn)
    where
      gn : GoodNode g o (valued x vs xs)
      gn = gd.stands.2

      n : Next g b.ahead x
      n = next_of o bs b x xs gn.1.0

      go : (u : Tree) → b.ahead ≡ tree_and u n.after → WellEvaluated g u x → Foreseen g (yields n.after ++ b.rest) u → inherited_of g u ≡ vs → Begun g t (node_of p vs []) (waiting_at o x xs ∷ bs)
      go (leaf c) e v k i = let v' = v.0 in let s : x ≡ nonterminal (production_at g p).left = gd.stands.1 in let z : ◌≡◌ {A = ℕ} 0 1 = cc in absurd (omega arith)
      go (node q ws h) e v k i =
          let same : p ≡ q = same_production o bs p q vs ws h n.after b.rest us ys xs x gd.stands.1 v k.0 i (ap (λ z. yields z ++ b.rest) (sym e) ∙ pos) pick in
          subst (λ z. Begun g t (node_of z vs []) (waiting_at o x xs ∷ bs)) (sym same) (begun_below o bs b q ws vs h n.after x xs e i)

  -- ---- a complete part is the tree's node

  abbrev closed : Open → List ℤ → Tree
  closed o ss = tree_of o.production (o.inherited ++ ss) o.children

  is_node_lem : (o : Open) (a : Ancestor) (bs : List Ancestor) (b : Begun g t o (a ∷ bs)) (ss : List ℤ) (y : Symbol)
      → length o.inherited ≡ inh g (nonterminal (production_at g o.production).left) → WellEvaluated g (closed o ss) y
      → node o.production b.values (forest_onto o.children b.ahead) ≡ closed o ss
  is_node_lem o a bs b ss y s v =
      let k = along_evaluated g formed t w fore a bs _ b.rest b.along in
      same_node g formed o.production b.values (o.inherited ++ ss) o.children b.ahead k.0 y k.1 v (b.inherited ∙ sym (take_at o.inherited ss (inh g (nonterminal (production_at g o.production).left)) s))

  begun_remove : (o : Open) (a : Ancestor) (bs : List Ancestor) (ss : List ℤ) → length o.inherited ≡ inh g (nonterminal (production_at g o.production).left)
      → Good g (part_of (with_child a.node (closed o ss)) (left a.ahead) bs) → Begun g t o (a ∷ bs) → Begun g t (with_child a.node (closed o ss)) bs
  begun_remove o a bs ss s gd b =
      let up = b.along in
      begun_more a.node bs (record { values = up.values; ahead = tree_and (node o.production b.values (forest_onto o.children b.ahead)) up.after; rest = up.later; along = up.parent; inherited = up.inherited })
      (closed o ss) up.after
      (ap (λ z. tree_and z up.after) (is_node_lem o a bs b ss (symbol_at (production_at g a.node.production) (suc (length a.node.children))) s gd.node.0.lefts.1))

  -- ---- a move

  pub begun_move : {m : Coming} {o : Open} {bs : List Ancestor} {q : Part} → Grown m o bs q → Good g q → length o.inherited ≡ inh g (nonterminal (production_at g o.production).left) → (us : List Leaf) → look_at us ≡ m
      → (length bs < length q.below → In q.node.production (keep (entered g (draw_registers g q)) (alternatives g (production_at g q.node.production).left (as_look (look_at us)))))
      → (b : Begun g t o bs) → yields b.ahead ++ b.rest ≡ us → Begun g t q.node q.below
  begun_move (within l pt) gd s us look pick b pos = b
  begun_move (reads {o} {bs} c xs) gd s us look pick b pos = begun_read o bs c xs gd us look b pos
  begun_move (predicts {o} {bs} l p vs ys x xs) gd s us look pick b pos = begun_predict o bs p vs ys x xs us gd (pick (omega arith)) b pos
  begun_move (removes {o} {b = a} {bs} l ss) gd s us look pick b pos = begun_remove o a bs ss s gd b

  -- ---- it is a part of the tree, wherever its point is

  reaches : (o : Open) (bs : List Ancestor) (b : Begun g t o bs) → Stands g o.production o.inherited bs → (pt : Point) → GoodNode g o pt → Reaches g (node o.production b.values (forest_onto o.children b.ahead)) (length o.children) pt
  reaches o bs b st (fresh xs) gn = tt
  reaches o bs b st (added x xs) gn = tt
  reaches o bs b st (left xs) gn = tt
  reaches o bs b st (valued x is xs) gn = next_handed o bs b x is xs gn
  reaches o [] b st (closing ss) gn = absurd (omega (arith, st.0, gn.1.3, formed.productions.1))
  reaches o (a ∷ bs) b st (closing ss) gn =
      let good = complete g o.production gn.1.3 (node_evaluable g formed o.production o.inherited (a ∷ bs) st) o.inherited ss o.children gn.0 gn.1.1 gn.1.2 gn.1.0 in
      ap (synthesized_of g) (is_node_lem o a bs b ss (nonterminal (production_at g o.production).left) gn.0.sized good) ∙ drop_at o.inherited ss (inh g (nonterminal (production_at g o.production).left)) gn.0.sized

  pub part_of_lem : (o : Open) (bs : List Ancestor) → Begun g t o bs → Stands g o.production o.inherited bs → (pt : Point) → GoodNode g o pt → PartOf g t (part_of o pt bs)
  part_of_lem o bs b st pt gn =
      let e = along_node g t bs _ b.rest b.along in
      record {
        node = record { values = b.values; ahead = b.ahead; is_node = e; is_inherited = ap (inherited_of g) e ∙ b.inherited };
        point = subst (λ u. Reaches g u (length o.children) pt) (sym e) (reaches o bs b st pt gn);
        below = along_below g t bs _ b.rest b.along;
      }
