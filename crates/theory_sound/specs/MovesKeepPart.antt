-- The invariant: each move of the machine from a good part's drawing leads to a good part's drawing, the part below unchanged.
use Rattle.std.specs.Prelude.{ℕ, suc, ◌+◌, ◌<◌, ◌≡◌, refl, ◌⊎◌, Bool, true, false, not, cond, List, [], ◌∷◌, ◌++◌, map, length, drop, T, eqb, ltb, ℤ}
use Rattle.std.proofs.Common.{arith, sym, ap, ◌∙◌, subst, inl, inr, append_assoc, append-nil, length-append, drop_at, eq-eqb}
use Rattle.meaning.specs.Base.{is_empty}
use Rattle.theory_answers.specs.ShapeMoves.{IsAhead}
use Rattle.meaning.specs.Grammar.{Symbol, terminal, nonterminal, Production, Grammar, inh, syn, added_for, production_at, whole, Leaf}
use Rattle.meaning.specs.Scheme.{remove, removed, inherited_rules, synthesized_rules, tests_after, scheme_end}
use Rattle.meaning.specs.Machine.{Config, Lent, moved, next, Coming, comes}
use Rattle.meaning.specs.Tree.{Tree, leaf, node, no_trees, yield, synthesized_of, WellEvaluated}
use Rattle.theory_base.specs.MoveCounts.{one_if}
use Rattle.meaning.specs.Rules.{WellFormed}
use Rattle.meaning.specs.Part.{yields_of, syns_of, marks, Front, fresh_rest, left_rest, wait_rest, frame, config, Open, Point, fresh, added, valued, left, closing, Ancestor, Part, yield_below, yield_part, draw_rest, draw_frame, draw_frames, draw_below, draw_registers, draw_part, GoodNode, Stands, Good}
use Rattle.theory_base.specs.WellFormed.{Evaluable, evaluable_at, evaluable_whole}
use Rattle.theory_base.specs.Values.{tree_of, front_more, tested_more, complete, drop_head, drop_over, lefts_length, yields_onto}
use Rattle.theory_base.specs.Frames.{scheme_is}
use Rattle.theory_base.specs.Selectors.{length_syns}
use Rattle.theory_base.specs.Grow.{Hand, hand, Close, close, passed}
use Rattle.theory_base.specs.Present.{inherited_present, synthesized_present, tests_present}
use Rattle.theory_base.specs.Steps.{not_moved}
use Rattle.theory_sound.specs.Counting.{start_moves, part_moves, MovesAre, full_onto, untested}
use Rattle.theory_sound.specs.Steps.{counting, Follows, may_add, may_evaluate, may_test, must_remove, must_read, must_predict}

-- ---- every node in progress can be evaluated

pub node_evaluable : (g : Grammar) → WellFormed g → (p : ℕ) (vs : List ℤ) (bs : List Ancestor) → Stands g p vs bs → Evaluable g (production_at g p)
node_evaluable g f p vs [] s = rw s.0 (evaluable_whole g f)
node_evaluable g f p vs (b ∷ bs) s = evaluable_at g f p s.0

-- ---- how a move changes the part

abbrev pub node_of : ℕ → List ℤ → List Tree → Open
node_of p vs ts = record { production = p; inherited = vs; children = ts }

abbrev pub part_of : Open → Point → List Ancestor → Part
part_of o pt bs = record { node = o; point = pt; below = bs }

abbrev pub waiting_at : Open → Symbol → List Symbol → Ancestor
waiting_at o x xs = record { node = o; symbol = x; ahead = xs }

abbrev pub with_child : Open → Tree → Open
with_child o t = node_of o.production o.inherited (t ∷ o.children)

-- from a node on what is below it
pub data Grown : Coming → Open → List Ancestor → Part → Type 0 where
  -- add, evaluate, test
  within : {o : Open} {bs : List Ancestor} (l : Coming) (pt : Point) → Grown l o bs (part_of o pt bs)
  reads : {o : Open} {bs : List Ancestor} (t : Leaf) (xs : List Symbol) → Grown (comes t) o bs (part_of (with_child o (leaf t)) (left xs) bs)
  predicts : {o : Open} {bs : List Ancestor} (l : Coming) (p : ℕ) (vs : List ℤ) (ys : List Symbol) (x : Symbol) (xs : List Symbol) → Grown l o bs (part_of (node_of p vs []) (fresh ys) (waiting_at o x xs ∷ bs))
  removes : {o : Open} {b : Ancestor} {bs : List Ancestor} (l : Coming) (ss : List ℤ) → Grown l o (b ∷ bs) (part_of (with_child b.node (tree_of o.production (o.inherited ++ ss) o.children)) (left b.ahead) bs)

pub record Moved (g : Grammar) (m : Coming) (o : Open) (bs : List Ancestor) (tokens moves : ℕ) (d : Config) : Type 0 where
  pub part : Part
  pub good : Good g part
  pub grown : Grown m o bs part
  pub frames : draw_frames g part ≡ d.frames
  pub registers : draw_registers g part ≡ d.registers
  pub counts : MovesAre g d.moves part
  pub reading : ((tokens ≡ d.tokens) × (yield_below bs ++ yields_of o.children ≡ yield_part part)) ⊎ ((t : Leaf) × (m ≡ comes t) × (suc tokens ≡ d.tokens) × ((yield_below bs ++ yields_of o.children) ++ (t ∷ []) ≡ yield_part part))

no_values : (vs : List ℤ) → length vs ≡ 0 → vs ≡ []
no_values [] e = refl
no_values (v ∷ vs) e = absurd (omega arith)

-- all but the whole segment is listed
pub listed : (g : Grammar) (p : ℕ) (vs : List ℤ) (bs : List Ancestor) → Stands g p vs bs → eqb p whole ≡ false → p < length g.productions
listed g p vs [] st e = absurd (subst T (sym (eq-eqb p whole st.0) ∙ e) tt)
listed g p vs (b ∷ bs) st e = st.0

-- remove: the node is left
leave : (g : Grammar) → WellFormed g → (lent : Lent) (tokens moves : ℕ) (d : Config) (o : Open) (bs : List Ancestor) → Stands g o.production o.inherited bs
    → (m : Coming) (ss : List ℤ) → GoodNode g o (closing ss) → MovesAre g moves (part_of o (closing ss) bs)
    → next g lent m (draw_part g (part_of o (closing ss) bs) tokens moves) ≡ moved d → Moved g m o bs tokens moves d
leave g f lent tokens moves d o [] st m ss gn mv h = absurd (omega (arith, f.productions.1, gn.1.3, st.0))
leave g f lent tokens moves d o (b ∷ bs) st l ss gn mv h = record {
  part = new;
  good = record { node = (front, ((drop_head (length us) q.right b.symbol (terminal 0) b.ahead up.1.0).2, tested_more g q fq b.node.inherited t us up.1.1, omega arith)); stands = st.3 };
  counts = omega (arith, mv, ap (λ c. c.moves) e, ap (start_moves g) (drop_head (length us) q.right b.symbol (terminal 0) b.ahead up.1.0).1, full_onto g o.production ts no_trees);
  grown = removes l ss;
  frames = ap (λ c. c.frames) e;
  registers = same ∙ ap (λ c. c.registers) e;
  reading = inl (ap (λ c. c.tokens) e, yielded);
}
  where
    p : Production
    p = production_at g o.production

    vs : List ℤ
    vs = o.inherited

    ts : List Tree
    ts = o.children

    q : Production
    q = production_at g b.node.production

    us : List Tree
    us = b.node.children

    up : GoodNode g b.node (valued b.symbol vs b.ahead)
    up = st.2

    fp : Evaluable g p
    fp = evaluable_at g f o.production st.0

    fq : Evaluable g q
    fq = node_evaluable g f b.node.production b.node.inherited bs st.3

    t : Tree
    t = tree_of o.production (vs ++ ss) ts

    good : WellEvaluated g t (nonterminal p.left)
    good = complete g o.production st.0 fp vs ss ts gn.0 gn.1.1 gn.1.2 gn.1.0

    front : Front g q b.node.inherited (t ∷ us)
    front = front_more g q fq b.node.inherited us t b.symbol b.ahead vs ss up.0 up.1.2 up.1.0 (rw st.1 good) refl

    new : Part
    new = part_of (with_child b.node t) (left b.ahead) bs

    e : config (draw_frames g new) (drop (removed g p) (draw_registers g (part_of o (closing ss) (b ∷ bs)))) tokens (suc moves) ≡ d
    e = must_remove g lent o.production (removed g p) [] (map (draw_frame g) (b ∷ bs)) (draw_registers g (part_of o (closing ss) (b ∷ bs))) tokens moves d l h

    all_left : length p.right ≡ length ts
    all_left = omega (arith, drop_over (length ts) p.right gn.1.0, lefts_length g p ts gn.0.lefts)

    size : length (syns_of g ts ++ vs) ≡ removed g p
    size = length-append (syns_of g ts) vs ∙ rw all_left (omega (arith, length_syns g p ts gn.0.lefts, gn.0.sized))

    rest : List ℤ
    rest = draw_below g (b ∷ bs)

    gone : drop (removed g p) (syns_of g ts ++ (vs ++ (ss ++ rest))) ≡ ss ++ rest
    gone = ap (λ z. drop (removed g p) z) (sym (append_assoc (syns_of g ts) vs (ss ++ rest))) ∙ drop_at (syns_of g ts ++ vs) (ss ++ rest) (removed g p) size

    kept : synthesized_of g t ≡ ss
    kept = drop_at vs ss (inh g (nonterminal p.left)) gn.0.sized

    same : draw_registers g new ≡ drop (removed g p) (draw_registers g (part_of o (closing ss) (b ∷ bs)))
    same = append_assoc (synthesized_of g t) (syns_of g us) (b.node.inherited ++ (marks (syn g (nonterminal q.left)) ++ draw_below g bs)) ∙ (ap (λ z. z ++ rest) kept ∙ sym gone)

    yielded : (yield_below bs ++ yields_of us) ++ yields_of ts ≡ yield_below bs ++ (yields_of us ++ yield t)
    yielded = append_assoc (yield_below bs) (yields_of us) (yields_of ts) ∙ ap (λ z. yield_below bs ++ (yields_of us ++ z)) (sym (yields_onto ts no_trees ∙ append-nil (yields_of ts)))

module _ (g : Grammar) (f : WellFormed g) (lent : Lent) (tokens moves : ℕ) (d : Config) (o : Open) (bs : List Ancestor) (st : Stands g o.production o.inherited bs) where
  -- the next move of a node that stands at a point
  abbrev Onward : Coming → Point → Type 0
  Onward m pt = MovesAre g moves (part_of o pt bs) → next g lent m (draw_part g (part_of o pt bs) tokens moves) ≡ moved d → Moved g m o bs tokens moves d

  abbrev From : Coming → Point → Type 0
  From m pt = GoodNode g o pt → Onward m pt

  -- the same node, further on in its scheme
  follow : (b : Bool) (m : Coming) (pt : Point) → GoodNode g o pt → start_moves g (nonterminal g.start) + (moves + one_if b) ≡ part_moves g (part_of o pt bs) → Onward m pt → Follows b g lent m (draw_part g (part_of o pt bs) tokens moves) d → Moved g m o bs tokens moves d
  follow true l pt gn mv k (inl te) =
      let e : counting (draw_part g (part_of o pt bs) tokens moves) ≡ d = te.1 in
      record {
        part = part_of o pt bs;
        good = record { node = gn; stands = st };
        grown = within l pt;
        frames = ap (λ c. c.frames) e;
        registers = ap (λ c. c.registers) e;
        counts = omega (arith, mv, ap (λ c. c.moves) e);
        reading = inl (ap (λ c. c.tokens) e, refl);
      }
  follow false l pt gn mv k (inl te) = absurd te.0
  follow true m pt gn mv k (inr h) = absurd h.0
  follow false m pt gn mv k (inr h) = k (omega arith) h.1

  -- read
  from_terminal : (l : Coming) → IsAhead g l → (t : ℕ) (is : List ℤ) (xs : List Symbol) → From l (valued (terminal t) is xs)
  from_terminal l ok t is xs gn mv h =
      let p : Production = production_at g o.production in
      let ts : List Tree = o.children in
      let e = must_read g lent o.production t (left_rest g o.production (suc (length ts)) xs) (map (draw_frame g) bs) (draw_registers g (part_of o (valued (terminal t) is xs) bs)) tokens moves d l h in
      let u : Leaf = e.leaf in
      let good : WellEvaluated g (leaf u) (terminal t) = (ap terminal (sym e.kind), subst (IsAhead g) e.ahead ok) in
      let nil : is ≡ [] = no_values is gn.1.2.sized in
      let fp : Evaluable g p = node_evaluable g f o.production o.inherited bs st in
      let rest : List ℤ = o.inherited ++ (marks (syn g (nonterminal p.left)) ++ draw_below g bs) in
      let same : draw_registers g (part_of (with_child o (leaf u)) (left xs) bs) ≡ u.values ++ draw_registers g (part_of o (valued (terminal t) is xs) bs) = append_assoc u.values (syns_of g ts) rest ∙ ap (λ z. u.values ++ ((z ++ []) ++ (syns_of g ts ++ rest))) (sym nil) in
      let at = drop_head (length ts) p.right (terminal t) (terminal 0) xs gn.1.0 in
      let front = front_more g p fp o.inherited ts (leaf u) (terminal t) xs is u.values gn.0 gn.1.2 gn.1.0 good (ap (λ z. z ++ u.values) (sym nil)) in
      record {
        part = part_of (with_child o (leaf u)) (left xs) bs;
        good = record {
          node = (front, (at.2, tested_more g p fp o.inherited (leaf u) ts gn.1.1, omega arith));
          stands = st;
        };
        counts = omega (arith, mv, ap (λ c. c.moves) e.result, ap (start_moves g) at.1);
        grown = subst (λ k. Grown k o bs (part_of (with_child o (leaf u)) (left xs) bs)) (sym e.ahead) (reads u xs);
        frames = ap (λ c. c.frames) e.result;
        registers = same ∙ ap (λ c. c.registers) e.result;
        reading = inr (u, e.ahead, ap (λ c. c.tokens) e.result, append_assoc (yield_below bs) (yields_of ts) (u ∷ []));
      }

  -- predict
  from_nonterminal : (l : Coming) (n : ℕ) (is : List ℤ) (xs : List Symbol) → From l (valued (nonterminal n) is xs)
  from_nonterminal l n is xs gn mv h =
      let x : Symbol = nonterminal n in
      let ts : List Tree = o.children in
      let old : List ℤ = draw_registers g (part_of o (valued x is xs) bs) in
      let e = must_predict g lent o.production n (left_rest g o.production (suc (length ts)) xs) (map (draw_frame g) bs) old tokens moves d l h in
      let q : ℕ = e.production in
      let p : Production = production_at g q in
      let fp : Evaluable g p = evaluable_at g f q e.listed in
      let b : Ancestor = waiting_at o x xs in
      let new : Part = part_of (node_of q is []) (fresh p.right) (b ∷ bs) in
      let named : x ≡ nonterminal p.left = ap nonterminal (sym e.left) in
      let size : length is ≡ inh g (nonterminal p.left) = rw (← named) gn.1.2.sized in
      let same : draw_registers g new ≡ old = rw (← named) (sym (append_assoc is (marks (syn g x)) (draw_below g (b ∷ bs)))) in
      record {
        part = new;
        good = record {
          node = (record { sized = size; ranged = gn.1.2.ranged; lefts = tt; rules = λ r i a z. absurd (omega arith) }, (refl, passed g p fp is [] (marks (syn g (nonterminal p.left)) ++ draw_below g (b ∷ bs)) size tt (λ c i z. absurd (omega arith)) (rw same e.entry)));
          stands = (e.listed, named, gn, st);
        };
        counts = omega (arith, mv, ap (λ c. c.moves) e.result);
        grown = predicts l q is p.right x xs;
        frames = ap (λ z. frame q z ∷ map (draw_frame g) (b ∷ bs)) (scheme_is g f q e.listed) ∙ ap (λ c. c.frames) e.result;
        registers = same ∙ ap (λ c. c.registers) e.result;
        reading = inl (ap (λ c. c.tokens) e.result, sym (append-nil (yield_below (b ∷ bs))));
      }

  from_valued : (m : Coming) → IsAhead g m → (x : Symbol) (is : List ℤ) (xs : List Symbol) → From m (valued x is xs)
  from_valued l ok (terminal t) is xs gn mv h = from_terminal l ok t is xs gn mv h
  from_valued l ok (nonterminal n) is xs gn mv h = from_nonterminal l n is xs gn mv h

  -- evaluate the inherited attributes
  from_added : (m : Coming) → IsAhead g m → (x : Symbol) (xs : List Symbol) → From m (added x xs)
  from_added m ok x xs gn mv h =
      let p : Production = production_at g o.production in
      let ts : List Tree = o.children in
      let base : List ℤ = marks (syn g (nonterminal p.left)) ++ draw_below g bs in
      let fp : Evaluable g p = node_evaluable g f o.production o.inherited bs st in
      let e = may_evaluate g lent o.production (wait_rest g o.production (length ts) x xs) (map (draw_frame g) bs) (draw_registers g (part_of o (added x xs) bs)) tokens moves d m (inherited_rules g p (suc (length ts))) h in
      let k : Hand g p o.inherited ts x (syns_of g ts ++ (o.inherited ++ base)) = hand g p fp o.inherited ts x xs base gn.0 gn.1.0 e.0 in
      let at = drop_head (length ts) p.right x (terminal 0) xs gn.1.0 in
      let gn' : GoodNode g o (valued x k.made xs) = (gn.0, (gn.1.0, gn.1.1, k.handed)) in
      let b = not (is_empty (inherited_rules g p (suc (length ts)))) in
      let pt : Point = valued x k.made xs in
      let present = inherited_present g p fp (length ts) at.0 ∙ ap (λ y. ltb 0 (inh g y)) at.1 in
      follow b m pt gn' (omega (arith, mv, ap one_if present)) (λ mv' z. from_valued m ok x k.made xs gn' mv' z)
      (subst (λ z. Follows b g lent m (config (draw_frames g (part_of o pt bs)) z tokens moves) d) k.registers e.1)

  -- evaluate the synthesized attributes, remove
  from_closing : (m : Coming) (ss : List ℤ) → From m (closing ss)
  from_closing m ss gn mv h = leave g f lent tokens moves d o bs st m ss gn mv h

  from_tail : (m : Coming) (b : Bool) → eqb o.production whole ≡ b → GoodNode g o (fresh []) → MovesAre g moves (part_of o (fresh []) bs)
      → next g lent m
      (config (frame o.production (cond b [] (scheme_end g (production_at g o.production))) ∷ map (draw_frame g) bs) (draw_registers g (part_of o (fresh []) bs)) tokens moves) ≡ moved d
      → Moved g m o bs tokens moves d
  from_tail l true e gn mv h = not_moved h
  from_tail m false e gn mv h =
      let p : Production = production_at g o.production in
      let ts : List Tree = o.children in
      let fp : Evaluable g p = node_evaluable g f o.production o.inherited bs st in
      let a = may_evaluate g lent o.production (remove (removed g p) ∷ []) (map (draw_frame g) bs) (draw_registers g (part_of o (fresh []) bs)) tokens moves d m (synthesized_rules g p) h in
      let k : Close g p o.inherited ts (draw_below g bs) = close g p fp o.inherited ts (draw_below g bs) gn.0 gn.1.0 a.0 in
      let gn' : GoodNode g o (closing k.made) = (gn.0, (gn.1.0, gn.1.1, k.results, listed g o.production o.inherited bs st e)) in
      let b = not (is_empty (synthesized_rules g p)) in
      let pt : Point = closing k.made in
      follow b m pt gn' (omega (arith, mv, ap one_if (synthesized_present g p fp))) (λ mv' z. from_closing m k.made gn' mv' z)
      (subst (λ z. Follows b g lent m (config (draw_frames g (part_of o pt bs)) z tokens moves) d) k.registers a.1)

  from_last : (m : Coming) → From m (fresh [])
  from_last m gn mv h = from_tail m (eqb o.production whole) refl gn mv h

  -- add
  from_fresh : (m : Coming) → IsAhead g m → (xs : List Symbol) → From m (fresh xs)
  from_fresh m ok [] gn mv h = from_last m gn mv h
  from_fresh m ok (x ∷ xs) gn mv h =
      let p : ℕ = o.production in
      let e = may_add g lent p (draw_rest g o (added x xs)) (map (draw_frame g) bs) (draw_registers g (part_of o (fresh (x ∷ xs)) bs)) tokens moves d m (added_for g x) h in
      follow (ltb 0 (added_for g x)) m (added x xs) gn (omega arith) (λ mv' z. from_added m ok x xs gn mv' z) e

  -- test
  from_left : (m : Coming) → IsAhead g m → (xs : List Symbol) → From m (left xs)
  from_left m ok xs gn mv h =
      let p : Production = production_at g o.production in
      let ts : List Tree = o.children in
      let base : List ℤ = marks (syn g (nonterminal p.left)) ++ draw_below g bs in
      let fp : Evaluable g p = node_evaluable g f o.production o.inherited bs st in
      let e = may_test g lent o.production (fresh_rest g o.production (length ts) xs) (map (draw_frame g) bs) (draw_registers g (part_of o (left xs) bs)) tokens moves d m (tests_after g p (length ts)) h in
      let gn' : GoodNode g o (fresh xs) = (gn.0, (gn.1.0, passed g p fp o.inherited ts base gn.0.sized gn.0.lefts gn.1.1 e.0)) in
      follow (not (is_empty (tests_after g p (length ts)))) m (fresh xs) gn' (omega (arith, mv, ap one_if (tests_present g p (length ts)), untested g p ts gn.1.2)) (λ mv' z. from_fresh m ok xs gn' mv' z) e.1

  pub from_point : (m : Coming) → IsAhead g m → (pt : Point) → GoodNode g o pt → MovesAre g moves (part_of o pt bs) → next g lent m (draw_part g (part_of o pt bs) tokens moves) ≡ moved d → Moved g m o bs tokens moves d
  from_point m ok (fresh xs) gn mv h = from_fresh m ok xs gn mv h
  from_point m ok (added x xs) gn mv h = from_added m ok x xs gn mv h
  from_point m ok (valued x is xs) gn mv h = from_valued m ok x is xs gn mv h
  from_point m ok (left xs) gn mv h = from_left m ok xs gn mv h
  from_point m ok (closing ss) gn mv h = from_closing m ss gn mv h
