-- The moves that a tree's walk still has to make from a part that has begun the tree: each move of the machine is the first of them.
use Rattle.std.specs.Prelude.{ℕ, suc, ◌+◌, ◌<◌, ◌≡◌, refl, ◌⊎◌, Bool, true, false, not, cond, List, [], ◌∷◌, ◌++◌, length, drop, eqb, ltb, ℤ}
use Rattle.std.proofs.Common.{arith, sym, ap, ap₂, ◌∙◌, inl, inr, append_assoc, length-append}
use Rattle.meaning.specs.Base.{cons_if, is_empty}
use Rattle.meaning.specs.Grammar.{Grammar, Symbol, Rule, terminal, nonterminal, added_for, production_at, whole, Leaf}
use Rattle.meaning.specs.Scheme.{Instruction, add, evaluate, expect, test, remove, scheme, inherited_rules, synthesized_rules, tests_after, removed, scheme_end}
use Rattle.meaning.specs.Machine.{Frame, Config, Lent, moved, next, is_expect, parent_onward, scheme_at, Coming}
use Rattle.meaning.specs.Tree.{Tree, Forest, leaf, node, no_trees, tree_and, child}
use Rattle.meaning.specs.Rules.{WellFormed}
use Rattle.meaning.specs.Part.{Open, Point, fresh, added, valued, left, closing, Ancestor, Part, yields_of, yield_below, yield_part, forest_onto, fresh_rest, left_rest, wait_rest, draw_rest, frame, draw_frames, children_of, node_on}
use Rattle.meaning.specs.Walk.{Act, performs, walk_on, top_production, act_by}
use Rattle.meaning.specs.Walk as Walk
use Rattle.meaning.specs.Machine as Machine
use Rattle.theory_base.specs.Values.{tree_of}
use Rattle.theory_base.specs.Frames.{scheme_listed, top_rest}
use Rattle.theory_base.specs.Steps.{move_of, Result, result}
use Rattle.theory_answers.specs.Bounds.{length_parent}
use Rattle.theory_sound.specs.MovesKeepPart.{Grown, within, reads, predicts, removes, Moved, node_of, part_of, waiting_at, with_child}
use Rattle.theory_sound.specs.RunsShowPart.{Shows}
use Rattle.theory_sound.specs.BelowUnchanged.{frames_are}
use Rattle.theory_complete.specs.SubtreeComplete.{drop_f, drop_f_next}
use Rattle.theory_moves.specs.ChildrenToCome.{ahead_child}
use Rattle.theory_moves.specs.NodeOnAncestors.{along_node}
use Rattle.theory_moves.specs.BegunKept.{Begun}

-- the children of t's node on these ancestors, from the k-th on
abbrev pub comes : Tree → List Ancestor → ℕ → Forest
comes t bs k = drop_f k (children_of (node_on t bs))

-- once the part on these ancestors is left
abbrev pub later : Grammar → Tree → List Ancestor → List Act
later g t [] = []
later g t (a ∷ bs) = walk_on g a.node.production (left_rest g a.node.production (suc (length a.node.children)) a.ahead) (comes t bs (suc (length a.node.children))) ++ later g t bs

abbrev pub remaining : Grammar → Tree → Part → List Act
remaining g t q = walk_on g q.node.production (draw_rest g q.node q.point) (comes t q.below (length q.node.children)) ++ later g t q.below

-- ---- the children still to come

onto_drop : (ts : List Tree) (f : Forest) → drop_f (length ts) (forest_onto ts f) ≡ f
onto_drop [] f = refl
onto_drop (t ∷ ts) f = drop_f_next (length ts) (forest_onto ts (tree_and t f)) t f (onto_drop ts (tree_and t f))

comes_next : (g : Grammar) (t : Tree) (o : Open) (bs : List Ancestor) (b : Begun g t o bs) → comes t bs (length o.children) ≡ b.ahead
comes_next g t o bs b = ap (λ n. drop_f (length o.children) (children_of n)) (along_node g t bs _ b.rest b.along) ∙ onto_drop o.children b.ahead

comes_child : (g : Grammar) (t : Tree) (o : Open) (u : Tree) (bs : List Ancestor) → Begun g t (with_child o u) bs → comes t bs (length o.children) ≡ tree_and u (comes t bs (suc (length o.children)))
comes_child g t o u bs b =
    ap (λ n. drop_f (length o.children) (children_of n)) (along_node g t bs _ b.rest b.along)
    ∙ (onto_drop o.children (tree_and u b.ahead) ∙ ap (tree_and u) (sym (comes_next g t (with_child o u) bs b)))

-- ---- what a frame's next instruction makes of its walk

performed : (g : Grammar) (p : ℕ) (i : Instruction) (is : List Instruction) (f : Forest) → is_expect i ≡ 0 → walk_on g p (i ∷ is) f ≡ performs p i ∷ walk_on g p is f
performed g p (add n) is no_trees e = refl
performed g p (add n) is (tree_and t f) e = refl
performed g p (evaluate rs) is no_trees e = refl
performed g p (evaluate rs) is (tree_and t f) e = refl
performed g p (test cs) is no_trees e = refl
performed g p (test cs) is (tree_and t f) e = refl
performed g p (remove n) is no_trees e = refl
performed g p (remove n) is (tree_and t f) e = refl
performed g p (expect x) is f e = absurd (omega arith)

act_is : (p : ℕ) (i : Instruction) (e : Config) → is_expect i ≡ 0 → act_by p i e ≡ performs p i
act_is p (add n) e z = refl
act_is p (evaluate rs) e z = refl
act_is p (test cs) e z = refl
act_is p (remove n) e z = refl
act_is p (expect x) e z = absurd (omega arith)

-- a remove is a scheme's last instruction
past : (b : Bool) (i : Instruction) (is js : List Instruction) (n : ℕ) → ((k : ℕ) → i ≡ remove k → ⊥) → cons_if b i is ≡ remove n ∷ js → is ≡ remove n ∷ js
past true i is js n other e = absurd (other n (let z : i ≡ remove n = cc in z))
past false i is js n other e = e

module _ (g : Grammar) (o : Open) (n : ℕ) (is : List Instruction) where
  past_evaluate : (rs : List (Rule ℕ)) (js : List Instruction) → cons_if (not (is_empty rs)) (evaluate rs) js ≡ remove n ∷ is → js ≡ remove n ∷ is
  past_evaluate rs js e = past (not (is_empty rs)) (evaluate rs) js is n (λ k w. let z : ◌≡◌ {A = ℕ} 0 1 = cc in omega arith) e

  not_expect : {A : Type 0} (x : Symbol) (js : List Instruction) → expect x ∷ js ≡ remove n ∷ is → A
  not_expect x js e = absurd (let z : ◌≡◌ {A = ℕ} 0 1 = cc in omega arith)

  last_tail : (b : Bool) → cond b [] (scheme_end g (production_at g o.production)) ≡ remove n ∷ is → is ≡ []
  last_tail true e = absurd (let z : ◌≡◌ {A = ℕ} 0 1 = cc in omega arith)
  last_tail false e = sym (ap (drop 1) (past_evaluate (synthesized_rules g (production_at g o.production)) (remove (removed g (production_at g o.production)) ∷ []) e))

  -- the instructions once the registers of the symbol at hand are added
  abbrev added_rest : ℕ → Symbol → List Symbol → List Instruction
  added_rest k x xs = cons_if (not (is_empty (inherited_rules g (production_at g o.production) (suc k)))) (evaluate (inherited_rules g (production_at g o.production) (suc k))) (wait_rest g o.production k x xs)

  last_added : (k : ℕ) (x : Symbol) (xs : List Symbol) → added_rest k x xs ≡ remove n ∷ is → is ≡ []
  last_added k x xs e = not_expect x (left_rest g o.production (suc k) xs) (past_evaluate (inherited_rules g (production_at g o.production) (suc k)) (wait_rest g o.production k x xs) e)

  last_fresh : (k : ℕ) (xs : List Symbol) → fresh_rest g o.production k xs ≡ remove n ∷ is → is ≡ []
  last_fresh k [] e = last_tail (eqb o.production whole) e
  last_fresh k (x ∷ xs) e = last_added k x xs (past (ltb 0 (added_for g x)) (add (added_for g x)) (added_rest k x xs) is n (λ j w. let z : ◌≡◌ {A = ℕ} 0 1 = cc in omega arith) e)

  last_remove : (pt : Point) → draw_rest g o pt ≡ remove n ∷ is → is ≡ []
  last_remove (fresh xs) e = last_fresh (length o.children) xs e
  last_remove (added x xs) e = last_added (length o.children) x xs e
  last_remove (valued x vs xs) e = not_expect x (left_rest g o.production (suc (length o.children)) xs) e
  last_remove (left xs) e =
      let cs = tests_after g (production_at g o.production) (length o.children) in
      last_fresh (length o.children) xs (past (not (is_empty cs)) (test cs) (fresh_rest g o.production (length o.children) xs) is n (λ k w. let z : ◌≡◌ {A = ℕ} 0 1 = cc in omega arith) e)
  last_remove (closing ss) e = sym (ap (drop 1) e)

-- ---- what a move did, by its instruction

data Did (g : Grammar) (lent : Lent) (l : Coming) (d e : Config) (p : ℕ) (is : List Instruction) (fs : List Frame) : Instruction → Type 0 where
  -- add, evaluate, test
  inside : (i : Instruction) → is_expect i ≡ 0 → e.frames ≡ frame p is ∷ fs → e.tokens ≡ d.tokens → Did g lent l d e p is fs i
  popped : (n : ℕ) → e.frames ≡ parent_onward fs → Did g lent l d e p is fs (remove n)
  accepted : (u : Leaf) (c : ℕ) → u.kind ≡ c → l ≡ Machine.comes u → e.frames ≡ frame p is ∷ fs → e.tokens ≡ suc d.tokens → Did g lent l d e p is fs (expect (terminal c))
  pushed : (n k : ℕ) → k < length g.productions → e.frames ≡ frame k (scheme_at g k) ∷ d.frames → Did g lent l d e p is fs (expect (nonterminal n))

did : (g : Grammar) (lent : Lent) (l : Coming) (d e : Config) (p : ℕ) (i : Instruction) (is : List Instruction) (fs : List Frame) → Result g lent l d (frame p (i ∷ is)) fs i e → Did g lent l d e p is fs i
did g lent l d e p (add n) is fs r = inside (add n) refl (ap (λ z. z.frames) (sym r.1)) (ap (λ z. z.tokens) (sym r.1))
did g lent l d e p (evaluate rs) is fs r = inside (evaluate rs) refl (ap (λ z. z.frames) (sym r.1)) (ap (λ z. z.tokens) (sym r.1))
did g lent l d e p (test cs) is fs r = inside (test cs) refl (ap (λ z. z.frames) (sym r.1)) (ap (λ z. z.tokens) (sym r.1))
did g lent l d e p (remove n) is fs r = popped n (ap (λ z. z.frames) (sym r))
did g lent l d e p (expect (terminal c)) is fs r = accepted r.leaf c r.kind r.ahead (ap (λ z. z.frames) (sym r.result)) (ap (λ z. z.tokens) (sym r.result))
did g lent l d e p (expect (nonterminal n)) is fs r = pushed n r.production r.listed (ap (λ z. z.frames) (sym r.result))

-- ---- the first of the remaining moves

module _ (g : Grammar) (t : Tree) (o : Open) (pt : Point) (p : ℕ) (is : List Instruction) where
  -- the frame at hand
  at_top : (bs : List Ancestor) (i : Instruction) (fs : List Frame) → draw_frames g (part_of o pt bs) ≡ frame p (i ∷ is) ∷ fs → remaining g t (part_of o pt bs) ≡ walk_on g p (i ∷ is) (comes t bs (length o.children)) ++ later g t bs
  at_top bs i fs e = ap (λ z. walk_on g (top_production z) (top_rest z) (comes t bs (length o.children)) ++ later g t bs) e

  first_inside : (bs : List Ancestor) (i : Instruction) (fs : List Frame) (pt' : Point) (e : Config) → is_expect i ≡ 0 → draw_frames g (part_of o pt bs) ≡ frame p (i ∷ is) ∷ fs
      → draw_frames g (part_of o pt' bs) ≡ frame p is ∷ fs → remaining g t (part_of o pt bs) ≡ act_by p i e ∷ remaining g t (part_of o pt' bs)
  first_inside bs i fs pt' e z old new =
      let f = comes t bs (length o.children) in
      let w = later g t bs in
      let then : walk_on g p is f ++ w ≡ remaining g t (part_of o pt' bs) = sym (ap (λ z. walk_on g (top_production z) (top_rest z) f ++ w) new) in
      at_top bs i fs old ∙ (ap (λ z. z ++ w) (performed g p i is f z) ∙ ap₂ ◌∷◌ (sym (act_is p i e z)) then)

  first_read : (bs : List Ancestor) (c : Leaf) (fs : List Frame) (xs : List Symbol) → draw_frames g (part_of o pt bs) ≡ frame p (expect (terminal c.kind) ∷ is) ∷ fs
      → draw_frames g (part_of (with_child o (leaf c)) (left xs) bs) ≡ frame p is ∷ fs → Begun g t (with_child o (leaf c)) bs
      → remaining g t (part_of o pt bs) ≡ Walk.reads c.kind ∷ remaining g t (part_of (with_child o (leaf c)) (left xs) bs)
  first_read bs c fs xs old new b =
      let f = comes t bs (suc (length o.children)) in
      let w = later g t bs in
      at_top bs (expect (terminal c.kind)) fs old
      ∙ (ap (λ z. walk_on g p (expect (terminal c.kind) ∷ is) z ++ w) (comes_child g t o (leaf c) bs b)
      ∙ ap (λ z. Walk.reads c.kind ∷ z) (sym (ap (λ z. walk_on g (top_production z) (top_rest z) f ++ w) new)))

  first_remove : (a : Ancestor) (bs : List Ancestor) (n : ℕ) (fs : List Frame) (ss : List ℤ) → draw_frames g (part_of o pt (a ∷ bs)) ≡ frame p (remove n ∷ is) ∷ fs
      → Begun g t (with_child a.node (tree_of o.production (o.inherited ++ ss) o.children)) bs
      → remaining g t (part_of o pt (a ∷ bs)) ≡ performs p (remove n) ∷ remaining g t (part_of (with_child a.node (tree_of o.production (o.inherited ++ ss) o.children)) (left a.ahead) bs)
  first_remove a bs n fs ss old b =
      let u = tree_of o.production (o.inherited ++ ss) o.children in
      let w = later g t (a ∷ bs) in
      let own : node_on t (a ∷ bs) ≡ u = ap (λ z. child (children_of z) (length a.node.children)) (along_node g t bs _ b.rest b.along) ∙ ahead_child a.node.children u b.ahead in
      let none : comes t (a ∷ bs) (length o.children) ≡ no_trees = ap (λ z. drop_f (length o.children) (children_of z)) own ∙ onto_drop o.children no_trees in
      let over : is ≡ [] = last_remove g o n is pt (ap top_rest old) in
      at_top (a ∷ bs) (remove n) fs old ∙ ap₂ (λ js f. walk_on g p (remove n ∷ js) f ++ w) over none

  first_predict : (bs : List Ancestor) (n : ℕ) (fs : List Frame) (q k : ℕ) (vs : List ℤ) (ys : List Symbol) (x : Symbol) (xs : List Symbol) (e : Config) → WellFormed g → k < length g.productions
      → draw_frames g (part_of o pt bs) ≡ frame p (expect (nonterminal n) ∷ is) ∷ fs
      → draw_frames g (part_of (node_of q vs []) (fresh ys) (waiting_at o x xs ∷ bs)) ≡ e.frames → e.frames ≡ frame k (scheme_at g k) ∷ frame p (expect (nonterminal n) ∷ is) ∷ fs
      → Begun g t (node_of q vs []) (waiting_at o x xs ∷ bs)
      → remaining g t (part_of o pt bs) ≡ Walk.predicts (top_production e.frames) ∷ remaining g t (part_of (node_of q vs []) (fresh ys) (waiting_at o x xs ∷ bs))
  first_predict bs n fs q k vs ys x xs e formed listed old new made b =
      let w = later g t bs in
      let f = comes t bs (suc (length o.children)) in
      let u = node q b.values b.ahead in
      let up : Begun g t (with_child o u) bs = record { values = b.along.values; ahead = b.along.after; rest = b.along.later; along = b.along.parent; inherited = b.along.inherited } in
      let same : q ≡ k = ap top_production (new ∙ made) in
      let sch : scheme g (production_at g q) ≡ fresh_rest g q 0 ys = ap (λ z. scheme g (production_at g z)) same ∙ (sym (scheme_listed g formed k listed) ∙ sym (ap top_rest (new ∙ made))) in
      let below : walk_on g p is f ≡ walk_on g o.production (left_rest g o.production (suc (length o.children)) xs) f = sym (ap (λ z. walk_on g (top_production (drop 1 z)) (drop 1 (top_rest (drop 1 z))) f) (new ∙ made)) in
      let own : walk_on g q (scheme g (production_at g q)) b.ahead ≡ walk_on g q (fresh_rest g q 0 ys) (comes t (waiting_at o x xs ∷ bs) 0) = ap₂ (walk_on g q) sch (sym (comes_next g t (node_of q vs []) (waiting_at o x xs ∷ bs) b)) in
      at_top bs (expect (nonterminal n)) fs old
      ∙ (ap (λ z. walk_on g p (expect (nonterminal n) ∷ is) z ++ w) (comes_child g t o u bs up)
      ∙ (ap (λ z. Walk.predicts q ∷ z) (append_assoc (walk_on g q (scheme g (production_at g q)) b.ahead) (walk_on g p is f) w)
      ∙ ap₂ (λ j z. Walk.predicts j ∷ z) (ap top_production new) (ap₂ (λ y z. y ++ (z ++ w)) own below)))

-- ---- any move

one_more : (xs ys : List Leaf) (c : Leaf) → length (xs ++ (ys ++ (c ∷ []))) ≡ suc (length (xs ++ ys))
one_more xs ys c = omega (arith, length-append xs (ys ++ (c ∷ [])), length-append ys (c ∷ []), length-append xs ys)

module _ (g : Grammar) (formed : WellFormed g) (lent : Lent) (l : Coming) (t : Tree) (d e : Config) (pt : Point) (p : ℕ) (is : List Instruction) (fs : List Frame) where
  first_by : {m : Coming} {o : Open} {bs : List Ancestor} {q : Part} (i : Instruction) → Grown m o bs q → Did g lent l d e p is fs i → m ≡ l
      → draw_frames g (part_of o pt bs) ≡ frame p (i ∷ is) ∷ fs → d.frames ≡ frame p (i ∷ is) ∷ fs → draw_frames g q ≡ e.frames → length fs ≡ length bs → length e.frames ≡ suc (length q.below)
      → e.tokens + length (yield_below bs ++ yields_of o.children) ≡ d.tokens + length (yield_part q)
      → Begun g t q.node q.below → remaining g t (part_of o pt bs) ≡ act_by p i e ∷ remaining g t q
  first_by i (within {o} {bs} k pt') (inside j z fr tk) m old now new high deep grew b = first_inside g t o pt p is bs i fs pt' e z old (new ∙ fr)
  first_by i (within k pt') (popped n fr) m old now new high deep grew b = absurd (omega (arith, high, deep, ap length fr, length_parent fs))
  first_by i (within k pt') (accepted u c q r fr tk) m old now new high deep grew b = absurd (omega (arith, grew, tk))
  first_by i (within k pt') (pushed n q r fr) m old now new high deep grew b = absurd (omega (arith, high, deep, ap length fr, ap length now))
  first_by i (reads {o} {bs} c xs) (inside j z fr tk) m old now new high deep grew b = absurd (omega (arith, grew, tk, one_more (yield_below bs) (yields_of o.children) c))
  first_by i (reads c xs) (popped n fr) m old now new high deep grew b = absurd (omega (arith, high, deep, ap length fr, length_parent fs))
  first_by i (reads {o} {bs} c xs) (accepted u k q r fr tk) m old now new high deep grew b =
      let same : u ≡ c = cc in
      let kinds : k ≡ c.kind = sym q ∙ ap (λ z. z.kind) same in
      first_read g t o pt p is bs c fs xs (old ∙ ap (λ z. frame p (expect (terminal z) ∷ is) ∷ fs) kinds) (new ∙ fr) b ∙ ap (λ z. Walk.reads z ∷ remaining g t (part_of (with_child o (leaf c)) (left xs) bs)) (sym kinds)
  first_by i (reads c xs) (pushed n q r fr) m old now new high deep grew b = absurd (omega (arith, high, deep, ap length fr, ap length now))
  first_by i (predicts k q vs ys x xs) (inside j z fr tk) m old now new high deep grew b = absurd (omega (arith, high, deep, ap length fr))
  first_by i (predicts k q vs ys x xs) (popped n fr) m old now new high deep grew b = absurd (omega (arith, high, deep, ap length fr, length_parent fs))
  first_by i (predicts k q vs ys x xs) (accepted u c z r fr tk) m old now new high deep grew b = absurd (omega (arith, high, deep, ap length fr))
  first_by i (predicts {o} {bs} k q vs ys x xs) (pushed n j r fr) m old now new high deep grew b = first_predict g t o pt p is bs n fs q j vs ys x xs e formed r old new (fr ∙ ap (λ z. frame j (scheme_at g j) ∷ z) now) b
  first_by i (removes {bs = bs} k ss) (inside j z fr tk) m old now new high deep grew b = absurd (omega (arith, high, deep, ap length fr))
  first_by i (removes {o} {b = a} {bs} k ss) (popped n fr) m old now new high deep grew b = first_remove g t o pt p is a bs n fs ss old b
  first_by i (removes {bs = bs} k ss) (accepted u c q r fr tk) m old now new high deep grew b = absurd (omega (arith, high, deep, ap length fr))
  first_by i (removes {bs = bs} k ss) (pushed n q r fr) m old now new high deep grew b = absurd (omega (arith, high, deep, ap length fr, ap length now))

grew_alike : (n k : ℕ) (m : Coming) (xs ys : List Leaf) → ((n ≡ k) × (xs ≡ ys)) ⊎ ((c : Leaf) × (m ≡ Machine.comes c) × (suc n ≡ k) × (xs ++ (c ∷ []) ≡ ys)) → k + length xs ≡ n + length ys
grew_alike n k m xs ys (inl r) = omega (arith, r.0, ap length r.1)
grew_alike n k m xs ys (inr r) = omega (arith, r.2, ap length r.3, length-append xs (r.0 ∷ []))

-- from a configuration that shows a part, to one whose part has begun the tree
pub first_move : (g : Grammar) → WellFormed g → (lent : Lent) (l : Coming) (t : Tree) (ts : List Leaf) (d e : Config) (s : Shows g ts d) (v : Moved g l s.part.node s.part.below d.tokens d.moves e)
    → (p : ℕ) (i : Instruction) (is : List Instruction) (fs : List Frame) → d.frames ≡ frame p (i ∷ is) ∷ fs → next g lent l d ≡ moved e
    → Begun g t v.part.node v.part.below → remaining g t s.part ≡ act_by p i e ∷ remaining g t v.part
first_move g formed lent l t ts d e s v p i is fs now h b =
    let r = result g lent l d (frame p (i ∷ is)) fs i e (move_of g lent l d e p i is fs now h).1 in
    let high = frames_are g s.part d.frames s.frames in
    let deep = frames_are g v.part e.frames v.frames in
    let grew = grew_alike d.tokens e.tokens l (yield_part s.part) (yield_part v.part) v.reading in
    first_by g formed lent l t d e s.part.point p is fs i v.grown (did g lent l d e p i is fs r) refl (s.frames ∙ now) now v.frames (omega (arith, high, ap length now)) deep grew b
