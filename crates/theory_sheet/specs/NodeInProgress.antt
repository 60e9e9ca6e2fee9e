-- A node in progress, as a configuration shows it: how moves enter a child, pass it and leave it.
use Rattle.std.specs.Prelude.{ℕ, suc, ◌+◌, ◌-◌, ◌≤◌, ◌≡◌, refl, ◌⊎◌, length, drop, T, ℤ}
use Rattle.std.proofs.Common.{arith, sym, ap, ◌∙◌, subst, inl, inr, length-append, drop-drop}
use mathlib.Core.List.{List, [], ◌∷◌, ◌++◌, append_assoc, append-nil, head-eq_of_cons-eq}
use Rattle.meaning.specs.Base.{all}
use Rattle.meaning.specs.Grammar.{Grammar, Leaf, Symbol}
use Rattle.meaning.specs.Rules.{WellFormed}
use Rattle.meaning.specs.Scheme.{Instruction}
use Rattle.meaning.specs.Machine.{Frame, Config, Lent, Coming, comes, moved, next, look_at, unread}
use Rattle.meaning.specs.Tree.{Tree, Forest, leaf, node, no_trees, tree_and, yield, yields, is_leaf_of}
use Rattle.meaning.specs.Part.{Open, Point, left, Ancestor, Part, Good, yields_of, yield_below, yield_part, forest_onto, frame, draw_rest, draw_frames, draw_registers}
use Rattle.theory_base.specs.Values.{tree_of}
use Rattle.theory_answers.specs.Runs.{look_is, is_ahead, all_drop}
use Rattle.theory_sound.specs.Counting.{MovesAre}
use Rattle.theory_sound.specs.MovesKeepPart.{Grown, within, reads, predicts, removes, Moved, node_of, part_of, waiting_at, with_child}
use Rattle.theory_sound.specs.RunsShowPart.{Shows, moves_to}
use Rattle.theory_sound.specs.BelowUnchanged.{frames_are}
use Rattle.theory_sound.specs.ShowsInstruction.{ShowsInstruction, ready}

-- ---- children that come after others, the latest of which stands first

abbrev pub onto : Forest → List Tree → List Tree
onto no_trees ts = ts
onto (tree_and t f) ts = onto f (t ∷ ts)

pub onto_forest : (f : Forest) (ts : List Tree) → forest_onto (onto f ts) no_trees ≡ forest_onto ts f
onto_forest no_trees ts = refl
onto_forest (tree_and t f) ts = onto_forest f (t ∷ ts)

onto_yields : (f : Forest) (ts : List Tree) → yields_of (onto f ts) ≡ yields_of ts ++ yields f
onto_yields no_trees ts = sym (append-nil (yields_of ts))
onto_yields (tree_and t f) ts = onto_yields f (t ∷ ts) ∙ append_assoc (yields_of ts) (yield t) (yields f)

abbrev pub with_children : Open → Forest → Open
with_children o f = node_of o.production o.inherited (onto f o.children)

-- ---- a configuration that shows a node in progress on its ancestors, the tokens all being those of the segment

pub record Stand (g : Grammar) (tokens : List Leaf) (o : Open) (bs : List Ancestor) (c : Config) : Type 0 where
  pub point : Point
  pub good : Good g (part_of o point bs)
  pub frames : draw_frames g (part_of o point bs) ≡ c.frames
  pub registers : draw_registers g (part_of o point bs) ≡ c.registers
  pub moves : MovesAre g c.moves (part_of o point bs)
  -- the tokens read are its yield
  pub count : length (yield_below bs ++ yields_of o.children) ≡ c.tokens
  pub split : tokens ≡ (yield_below bs ++ yields_of o.children) ++ drop c.tokens tokens

module _ {g : Grammar} {tokens : List Leaf} where
  unfoldable pub shows : {o : Open} {bs : List Ancestor} {c : Config} → Stand g tokens o bs c → Shows g (yield_below bs ++ yields_of o.children) c
  shows {o} {bs} s = record { part = part_of o s.point bs; good = s.good; frames = s.frames; registers = s.registers; read = refl; tokens = s.count; moves = s.moves }

  -- a part that is known to be of a node on its ancestors
  as_stand : {o : Open} {bs : List Ancestor} {c : Config} (q : Part) (pt : Point) → q ≡ part_of o pt bs → Good g q → draw_frames g q ≡ c.frames → draw_registers g q ≡ c.registers
      → MovesAre g c.moves q → length (yield_part q) ≡ c.tokens → tokens ≡ yield_part q ++ drop c.tokens tokens → Stand g tokens o bs c
  as_stand {o} {bs} {c} q pt e gd fs rs ms n z = record {
    point = pt;
    good = subst (Good g) e gd;
    frames = ap (draw_frames g) (sym e) ∙ fs;
    registers = ap (draw_registers g) (sym e) ∙ rs;
    moves = subst (MovesAre g c.moves) e ms;
    count = ap (λ p. length (yield_part p)) (sym e) ∙ n;
    split = z ∙ ap (λ p. yield_part p ++ drop c.tokens tokens) e;
  }

  -- how many tokens children cover
  pub stand_tokens : {o : Open} {bs : List Ancestor} {c d : Config} (f : Forest) → Stand g tokens o bs c → Stand g tokens (with_children o f) bs d → d.tokens ≡ c.tokens + length (yields f)
  stand_tokens {o} {bs} f s t =
      let e : length (yield_below bs ++ yields_of (onto f o.children)) ≡ length ((yield_below bs ++ yields_of o.children) ++ yields f) = ap (λ z. length (yield_below bs ++ z)) (onto_yields f o.children) ∙ ap length (sym (append_assoc (yield_below bs) (yields_of o.children) (yields f))) in
      omega (arith, s.count, t.count, e, length-append (yield_below bs ++ yields_of o.children) (yields f))

  pub stand_frames : {o : Open} {bs : List Ancestor} {c : Config} → Stand g tokens o bs c → length c.frames ≡ suc (length bs)
  stand_frames {o} {bs} {c} s = frames_are g (part_of o s.point bs) c.frames s.frames

  -- the instruction at hand, and the point that shows just it
  pub stand_ready : WellFormed g → {o : Open} {bs : List Ancestor} {c : Config} → Stand g tokens o bs c → (p : ℕ) (i : Instruction) (is : List Instruction) (fs : List Frame) → c.frames ≡ frame p (i ∷ is) ∷ fs → ShowsInstruction g o bs i is c.registers
  stand_ready f {o} {bs} {c} s p i is fs e =
      let top : frame o.production (draw_rest g o s.point) ≡ frame p (i ∷ is) = head-eq_of_cons-eq (s.frames ∙ e) in
      ready g f o bs s.good.stands i is s.point c.registers s.good.node (ap (λ z. z.rest) top) s.registers

-- ---- one move

pub record PartGrown (g : Grammar) (tokens : List Leaf) (l : Coming) (o : Open) (bs : List Ancestor) (c d : Config) : Type 0 where
  pub part : Part
  pub grown : Grown l o bs part
  pub good : Good g part
  pub frames : draw_frames g part ≡ d.frames
  pub registers : draw_registers g part ≡ d.registers
  pub moves : MovesAre g d.moves part
  pub count : length (yield_part part) ≡ d.tokens
  pub split : tokens ≡ yield_part part ++ drop d.tokens tokens
  pub rest : unread c d (drop c.tokens tokens) ≡ drop d.tokens tokens

module _ (g : Grammar) (f : WellFormed g) (lent : Lent) (tokens : List Leaf) (known : T (all (is_leaf_of g) tokens)) {o : Open} {bs : List Ancestor} (c d : Config) (s : Stand g tokens o bs c) where
  abbrev ahead : Coming
  ahead = look_at (drop c.tokens tokens)

  pub stand_step : next g lent ahead c ≡ moved d → PartGrown g tokens ahead o bs c d
  unfolding shows
  stand_step h = go v.reading
    where
      q : List Leaf
      q = yield_below bs ++ yields_of o.children

      v : Moved g ahead o bs c.tokens c.moves d
      v = moves_to g f lent ahead (is_ahead g (drop c.tokens tokens) (all_drop g c.tokens tokens known)) q c d (shows s) h

      made : length (yield_part v.part) ≡ d.tokens → tokens ≡ yield_part v.part ++ drop d.tokens tokens → c.tokens ≤ d.tokens → PartGrown g tokens ahead o bs c d
      made n z l =
          let k : c.tokens + (d.tokens - c.tokens) ≡ d.tokens = omega arith in
          record { part = v.part; grown = v.grown; good = v.good; frames = v.frames; registers = v.registers; moves = v.counts; count = n; split = z; rest = drop-drop (d.tokens - c.tokens) c.tokens tokens ∙ ap (λ j. drop j tokens) k }

      go : ((c.tokens ≡ d.tokens) × (q ≡ yield_part v.part)) ⊎ ((t : Leaf) × (ahead ≡ comes t) × (suc c.tokens ≡ d.tokens) × (q ++ (t ∷ []) ≡ yield_part v.part)) → PartGrown g tokens ahead o bs c d
      go (inl r) = made (ap length (sym r.1) ∙ (s.count ∙ r.0)) (s.split ∙ (ap (λ z. z ++ drop c.tokens tokens) r.1 ∙ ap (λ n. yield_part v.part ++ drop n tokens) r.0)) (omega (arith, r.0))
      go (inr r) =
          let t : Leaf = r.0 in
          let one : c.tokens + 1 ≡ d.tokens = omega (arith, r.2) in
          let left : drop c.tokens tokens ≡ t ∷ drop d.tokens tokens = look_is (drop c.tokens tokens) t r.1 ∙ ap (λ z. t ∷ z) (drop-drop 1 c.tokens tokens ∙ ap (λ n. drop n tokens) one) in
          made (ap length (sym r.3) ∙ (length-append q (t ∷ []) ∙ omega (arith, s.count, r.2))) (s.split ∙ (ap (λ z. q ++ z) left ∙ (sym (append_assoc q (t ∷ []) (drop d.tokens tokens)) ∙ ap (λ z. z ++ drop d.tokens tokens) r.3))) (omega (arith, r.2))

-- ---- what kind of move it was, by how many places there are and how many tokens are read

same_node : {l : Coming} {o : Open} {bs : List Ancestor} {q : Part} → Grown l o bs q → length q.below ≡ length bs → length (yield_part q) ≡ length (yield_below bs ++ yields_of o.children) → q ≡ part_of o q.point bs
same_node (within l pt) h y = refl
same_node {o = o} {bs = bs} (reads t xs) h y = absurd (omega (arith, y, length-append (yield_below bs) (yields_of o.children ++ (t ∷ [])), length-append (yields_of o.children) (t ∷ []), length-append (yield_below bs) (yields_of o.children)))
same_node (predicts l p vs ys x xs) h y = absurd (omega arith)
same_node (removes l ss) h y = absurd (omega arith)

one_more : {l : Coming} {o : Open} {bs : List Ancestor} {q : Part} → Grown l o bs q → length q.below ≡ length bs → length (yield_part q) ≡ suc (length (yield_below bs ++ yields_of o.children)) → (u : Leaf) × (q ≡ part_of (with_child o (leaf u)) q.point bs)
one_more (within l pt) h y = absurd (omega arith)
one_more (reads t xs) h y = (t, refl)
one_more (predicts l p vs ys x xs) h y = absurd (omega arith)
one_more (removes l ss) h y = absurd (omega arith)

entered : {l : Coming} {o : Open} {bs : List Ancestor} {q : Part} → Grown l o bs q → length q.below ≡ suc (length bs) → (p : ℕ) × (vs : List ℤ) × (x : Symbol) × (xs : List Symbol) × (q ≡ part_of (node_of p vs []) q.point (waiting_at o x xs ∷ bs))
entered (within l pt) h = absurd (omega arith)
entered (reads t xs) h = absurd (omega arith)
entered (predicts l p vs ys x xs) h = (p, vs, x, xs, refl)
entered (removes l ss) h = absurd (omega arith)

gone : {l : Coming} {o : Open} {b : Ancestor} {bs : List Ancestor} {q : Part} → Grown l o (b ∷ bs) q → length q.below ≡ length bs → (ss : List ℤ) × (q ≡ part_of (with_child b.node (tree_of o.production (o.inherited ++ ss) o.children)) (left b.ahead) bs)
gone (within l pt) h = absurd (omega arith)
gone (reads t xs) h = absurd (omega arith)
gone (predicts l p vs ys x xs) h = absurd (omega arith)
gone (removes l ss) h = (ss, refl)

module _ {g : Grammar} {tokens : List Leaf} {l : Coming} {o : Open} {bs : List Ancestor} {c d : Config} (s : Stand g tokens o bs c) (v : PartGrown g tokens l o bs c d) where
  abbrev deep : length d.frames ≡ suc (length v.part.below)
  deep = frames_are g v.part d.frames v.frames

  step_stands : {o' : Open} {bs' : List Ancestor} (pt : Point) → v.part ≡ part_of o' pt bs' → Stand g tokens o' bs' d
  step_stands pt e = as_stand v.part pt e v.good v.frames v.registers v.moves v.count v.split

  -- add, evaluate, test
  pub stays : length d.frames ≡ length c.frames → d.tokens ≡ c.tokens → Stand g tokens o bs d
  stays n t = step_stands v.part.point (same_node v.grown (omega (arith, stand_frames s, deep)) (v.count ∙ (t ∙ sym s.count)))

  pub read : length d.frames ≡ length c.frames → d.tokens ≡ suc c.tokens → (u : Leaf) × Stand g tokens (with_child o (leaf u)) bs d
  read n t =
      let r = one_more v.grown (omega (arith, stand_frames s, deep)) (v.count ∙ (t ∙ ap suc (sym s.count))) in
      (r.0, step_stands v.part.point r.1)

  pub predicted : length d.frames ≡ suc (length c.frames) → (p : ℕ) × (vs : List ℤ) × (x : Symbol) × (xs : List Symbol) × Stand g tokens (node_of p vs []) (waiting_at o x xs ∷ bs) d
  predicted n =
      let r = entered v.grown (omega (arith, stand_frames s, deep)) in
      (r.0, r.1, r.2, r.3, step_stands v.part.point r.4)

module _ {g : Grammar} {tokens : List Leaf} {l : Coming} {o : Open} {b : Ancestor} {bs : List Ancestor} {c d : Config} (s : Stand g tokens o (b ∷ bs) c) (v : PartGrown g tokens l o (b ∷ bs) c d) where
  -- the parent, with the node closed on these results
  abbrev closed : List ℤ → Open
  closed ss = with_child b.node (tree_of o.production (o.inherited ++ ss) o.children)

  pub removed_node : length c.frames ≡ suc (length d.frames) → (ss : List ℤ) × Stand g tokens (closed ss) bs d × (draw_registers g (part_of (closed ss) (left b.ahead) bs) ≡ d.registers)
  removed_node n =
      let r = gone v.grown (omega (arith, stand_frames s, frames_are g v.part d.frames v.frames)) in
      (r.0, step_stands s v (left b.ahead) r.1, ap (draw_registers g) (sym r.1) ∙ v.registers)
