-- The machine walks a whole well evaluated subtree: from where its symbol is expected to where it is left, in exactly its moves; or as far as stacks and limits let it.
use Rattle.std.specs.Prelude.{ℕ, zero, suc, ◌+◌, ◌≤◌, ◌<◌, ◌≡◌, refl, not, List, [], ◌∷◌, ◌++◌, length, take, drop, replicate, ltb, ℤ}
use Rattle.std.proofs.Common.{zero-le, suc-le-suc, arith, add-zero, sym, ap, ◌∙◌, subst, append_assoc, length-drop, length-append, drop-cons}
use Rattle.std.proofs.lemmas.List.{length-replicate}
use Rattle.std.proofs.Math.Seq.{drop-length}
use Rattle.meaning.specs.Base.{all, cons_if, is_empty}
use Rattle.meaning.specs.Grammar.{Symbol, terminal, nonterminal, Production, Grammar, inh, syn, added_for, production_at, symbol_at, Leaf, marked_for, att, conditions_at}
use Rattle.meaning.specs.Value.{mark}
use Rattle.meaning.specs.Scheme.{Instruction, evaluate, expect, test, remove, scheme, symbol_scheme, symbols_scheme, inherited_rules, synthesized_rules, tests_after, removed, scheme_end}
use Rattle.meaning.specs.Machine.{Frame, Config, Lent, scheme_at, moves_limit}
use Rattle.meaning.specs.Tree.{Tree, Forest, leaf, node, no_trees, tree_and, yield, yields, width, child, WellEvaluated, WellEvaluateds, synthesized_of, waiting, inherited_of}
use Rattle.theory_base.specs.MoveCounts.{one_if}
use Rattle.meaning.specs.Drawn.{registers_for, registers_in, depth, depths}
use Rattle.meaning.specs.Rules.{WellFormed}
use Rattle.meaning.specs.Part.{config, frame, marks}
use Rattle.theory_base.specs.Selectors.{syn_size}
use Rattle.theory_base.specs.Walks.{all_moves, all_moves_in, room}
use Rattle.theory_base.specs.Present.{synthesized_present, inherited_present, tests_present}
use Rattle.theory_base.specs.WellFormed.{evaluable_at}
use Rattle.theory_complete.specs.NodeInProgressGood.{length_inherited, waiting_is, Evaluated, under, added, child_fits, inherited_in_range, evaluates_inherited, tests_hold, full, synthesized_in_range, evaluates_synthesized, removes, under_next}
use Rattle.theory_complete.specs.Run.{empty_of, zero_of_ltb, Way, Room, room_map, Goes, ◌on◌, ends_as, begins_as, adds, evaluates, tests, pops, reads, predicts}
use Rattle.theory_complete.specs.PredictsOfWalk.{Predicted, Predicteds, Chosen}
use Rattle.theory_base.specs.Frames.{scheme_listed}

-- what is to come after symbol k + 1
abbrev pub afterward : Grammar → Production → ℕ → List Instruction
afterward g p k = cons_if (not (is_empty (tests_after g p (suc k)))) (test (tests_after g p (suc k))) (symbols_scheme g p (suc (suc k)) (drop (suc k) p.right) (scheme_end g p))

-- the frame of production p once its first k symbols are passed
abbrev pub progress : Grammar → ℕ → ℕ → Frame
progress g p k = frame p (symbols_scheme g (production_at g p) (suc k) (drop k (production_at g p).right) (scheme_end g (production_at g p)))

-- and its registers then, on rs
abbrev pub during : Grammar → ℕ → List ℤ → Forest → List ℤ → ℕ → List ℤ
during g p vs f rs k = under g (production_at g p) vs f (replicate (syn g (symbol_at (production_at g p) 0)) mark ++ rs) k

-- the same frame where it expects symbol k + 1
abbrev pub expecting : Grammar → ℕ → ℕ → Frame
expecting g p k = frame p (expect (symbol_at (production_at g p) (suc k)) ∷ afterward g (production_at g p) k)

-- ---- the children from the k-th on

abbrev pub drop_f : ℕ → Forest → Forest
drop_f zero f = f
drop_f (suc k) no_trees = no_trees
drop_f (suc k) (tree_and t f) = drop_f k f

drop_f_none : (k : ℕ) → drop_f k no_trees ≡ no_trees
drop_f_none zero = refl
drop_f_none (suc k) = refl

pub drop_f_child : (k : ℕ) (g : Forest) (t : Tree) (f : Forest) → drop_f k g ≡ tree_and t f → child g k ≡ t
drop_f_child zero no_trees t f e = cc
drop_f_child zero (tree_and u g) t f e = cc
drop_f_child (suc k) no_trees t f e = cc
drop_f_child (suc k) (tree_and u g) t f e = drop_f_child k g t f e

pub drop_f_next : (k : ℕ) (g : Forest) (t : Tree) (f : Forest) → drop_f k g ≡ tree_and t f → drop_f (suc k) g ≡ f
drop_f_next zero no_trees t f e = cc
drop_f_next zero (tree_and u g) t f e = cc
drop_f_next (suc k) no_trees t f e = cc
drop_f_next (suc k) (tree_and u g) t f e = drop_f_next k g t f e

module _ (g : Grammar) where
  pub drop_f_within : (k : ℕ) (f : Forest) (xs : List Symbol) (t : Tree) (h : Forest) → WellEvaluateds g f xs → drop_f k f ≡ tree_and t h → k < length xs
  drop_f_within k no_trees [] t h w e = let n = drop_f_none k in let z : ◌≡◌ {A = ℕ} 0 1 = cc in absurd (omega arith)
  drop_f_within k no_trees (x ∷ xs) t h w e = absurd w
  drop_f_within k (tree_and u f) [] t h w e = absurd w
  drop_f_within zero (tree_and u f) (x ∷ xs) t h w e = omega arith
  drop_f_within (suc k) (tree_and u f) (x ∷ xs) t h w e = suc-le-suc (drop_f_within k f xs t h w.1 e)

  pub drop_f_over : (k : ℕ) (f : Forest) (xs : List Symbol) → WellEvaluateds g f xs → drop_f k f ≡ no_trees → length xs ≤ k
  drop_f_over k no_trees [] w e = zero-le
  drop_f_over k no_trees (x ∷ xs) w e = absurd w
  drop_f_over k (tree_and u f) [] w e = absurd w
  drop_f_over zero (tree_and u f) (x ∷ xs) w e = let z : ◌≡◌ {A = ℕ} 0 1 = cc in absurd (omega arith)
  drop_f_over (suc k) (tree_and u f) (x ∷ xs) w e = suc-le-suc (drop_f_over k f xs w.1 e)

-- ---- the end of a node

module _ (y : Way) (g : Grammar) (lent : Lent) (need : ℕ) (us : List Leaf) (p : Production) (vs : List ℤ) (f : Forest) (e : Evaluated g p vs f) where
  pub ends : (n₀ q : ℕ) (x : Symbol) (is : List Instruction) (fs : List Frame) (rs : List ℤ) (n m : ℕ) → Room y (m + (one_if (ltb 0 (syn g (symbol_at p 0))) + 1) ≤ moves_limit)
      → Goes y g lent need us (config (frame n₀ (scheme_end g p) ∷ frame q (expect x ∷ is) ∷ fs) (full g p vs f e rs) n m) us
      (config (frame q is ∷ fs) (drop (inh g (symbol_at p 0)) vs ++ rs) n (m + (one_if (ltb 0 (syn g (symbol_at p 0))) + 1)))
  ends n₀ q x is fs rs n m l =
      let b = not (is_empty (synthesized_rules g p)) in
      let same : b ≡ ltb 0 (syn g (symbol_at p 0)) = synthesized_present g p e.formed in
      let l' : Room y (m + (one_if b + 1) ≤ moves_limit) = rw same l in
      let time : suc (m + one_if b) ≡ m + (one_if (ltb 0 (syn g (symbol_at p 0))) + 1) = rw same (omega arith) in
      ends_as (removes g p vs f e rs (drop (inh g (symbol_at p 0)) vs ++ rs)) refl time
      (evaluates y g lent need us n₀ (remove (removed g p) ∷ []) (frame q (expect x ∷ is) ∷ fs) n m b (synthesized_rules g p) (full g p vs f e rs)
      (under g p vs f (drop (inh g (symbol_at p 0)) vs ++ rs) (length p.right)) (room_map y (λ z. omega (arith, z)) l') (synthesized_in_range g p vs f e rs) (evaluates_synthesized g p vs f e rs)
      (empty_of (synthesized_rules g p))
      on pops y g lent need us q is fs n (m + one_if b) n₀ (removed g p) x (under g p vs f (drop (inh g (symbol_at p 0)) vs ++ rs) (length p.right)) (room_map y (λ z. omega (arith, z)) l'))

-- ---- a child, its walk given

abbrev pub RunOf : Way → Grammar → Lent → ℕ → List Leaf → Tree → Symbol → ℕ → List Instruction → List Frame → List ℤ → ℕ → ℕ → Type 0
RunOf y g lent need us t x q is fs rs n m = Goes y g lent need (yield t ++ us) (config (frame q (expect x ∷ is) ∷ fs) (waiting g t ++ rs) n m) us (config (frame q is ∷ fs) (synthesized_of g t ++ rs) (n + width t) (m + all_moves g t))

-- the moves before a child's own
abbrev pub to_child : Grammar → Production → ℕ → ℕ
to_child g p k = one_if (ltb 0 (added_for g (symbol_at p k))) + one_if (ltb 0 (inh g (symbol_at p k)))

abbrev pub after_child : Production → ℕ → ℕ
after_child p k = one_if (not (is_empty (conditions_at p k)))

-- the moves made once child k + 1 is expected, and once it is passed
abbrev pub at_child : Grammar → ℕ → ℕ → ℕ → ℕ
at_child g p k m = m + to_child g (production_at g p) (suc k)

abbrev pub past_child : Grammar → ℕ → ℕ → Tree → ℕ → ℕ
past_child g p k t m = at_child g p k m + all_moves g t + after_child (production_at g p) (suc k)

module _ (y : Way) (g : Grammar) (lent : Lent) (need : ℕ) (us : List Leaf) (p : Production) (vs : List ℤ) (f : Forest) (e : Evaluated g p vs f) (tail : List ℤ) (k : ℕ) (h : k < length p.right) (n₀ : ℕ) (is : List Instruction) (fs : List Frame) where
  abbrev after_expect : List Instruction
  after_expect = cons_if (not (is_empty (tests_after g p (suc k)))) (test (tests_after g p (suc k))) is

  pub reaches : (n m : ℕ) → Room y (length (under g p vs f tail k) + added_for g (symbol_at p (suc k)) ≤ lent.max_registers) → Room y (m + to_child g p (suc k) ≤ moves_limit)
      → Goes y g lent need us (config (frame n₀ (symbol_scheme g p (suc k) (symbol_at p (suc k)) is) ∷ fs) (under g p vs f tail k) n m) us
      (config (frame n₀ (expect (symbol_at p (suc k)) ∷ after_expect) ∷ fs) (waiting g (child f k) ++ under g p vs f tail k) n (m + to_child g p (suc k)))
  reaches n m r l =
      let x = symbol_at p (suc k) in
      let a = ltb 0 (added_for g x) in
      let b = not (is_empty (inherited_rules g p (suc k))) in
      let same : b ≡ ltb 0 (inh g x) = inherited_present g p e.formed k h in
      let l' : Room y (m + (one_if a + one_if b) ≤ moves_limit) = rw same l in
      let time : m + one_if a + one_if b ≡ m + to_child g p (suc k) = rw same (omega arith) in
      ends_as refl refl time
      (adds y g lent need us n₀ (cons_if b (evaluate (inherited_rules g p (suc k))) (expect x ∷ after_expect)) fs n m a (added_for g x) (under g p vs f tail k) (room_map y (λ z. omega (arith, z)) l') r (zero_of_ltb (added_for g x))
      on evaluates y g lent need us n₀ (expect x ∷ after_expect) fs n (m + one_if a) b (inherited_rules g p (suc k)) (added g p vs f tail k)
      (waiting g (child f k) ++ under g p vs f tail k) (room_map y (λ z. omega (arith, z)) l') (inherited_in_range g p vs f e tail k h) (evaluates_inherited g p vs f e tail k h)
      (empty_of (inherited_rules g p (suc k))))

  pub leaves : (n m : ℕ) → Room y (m + after_child p (suc k) ≤ moves_limit) → Goes y g lent need us (config (frame n₀ after_expect ∷ fs) (synthesized_of g (child f k) ++ under g p vs f tail k) n m) us (config (frame n₀ is ∷ fs) (under g p vs f tail (suc k)) n (m + after_child p (suc k)))
  leaves n m l =
      let b = not (is_empty (tests_after g p (suc k))) in
      let same : b ≡ not (is_empty (conditions_at p (suc k))) = tests_present g p (suc k) in
      let l' : Room y (m + one_if b ≤ moves_limit) = rw same l in
      let time : m + one_if b ≡ m + after_child p (suc k) = rw same refl in
      let next : under g p vs f tail (suc k) ≡ synthesized_of g (child f k) ++ under g p vs f tail k = under_next g p vs f tail k in
      rw (← next) (ends_as refl refl time (tests y g lent need us n₀ is fs n m b (tests_after g p (suc k)) (under g p vs f tail (suc k)) l' (tests_hold g p vs f e tail (suc k) h)))

-- ---- all of a subtree

abbrev pub RunsOf : Way → Grammar → Lent → ℕ → List Leaf → Forest → ℕ → List ℤ → Forest → ℕ → Symbol → ℕ → List Instruction → List Frame → List ℤ → ℕ → ℕ → Type 0
RunsOf y g lent need us f p vs all k x q is fs rs n m =
    Goes y g lent need
    (yields f ++ us) (config (progress g p k ∷ frame q (expect x ∷ is) ∷ fs) (during g p vs all rs k) n m)
    us (config (frame q is ∷ fs) (drop (inh g (symbol_at (production_at g p) 0)) vs ++ rs) (n + length (yields f)) (m + all_moves_in g p (suc k) f))

-- a tree whose symbol x is expected above the frames fs, its waiting registers on rs, after m moves; there is room for its walk, or it is made as far as there is
pub record TreeExpected (y : Way) (g : Grammar) (lent : Lent) (t : Tree) (x : Symbol) (fs : List Frame) (rs : List ℤ) (m : ℕ) : Type 0 where
  pub evaluated : WellEvaluated g t x
  pub registers : Room y (registers_for g (length (waiting g t ++ rs)) t ≤ lent.max_registers)
  pub places : Room y (suc (length fs) + depth t ≤ lent.max_places)
  pub moves : Room y (m + all_moves g t ≤ moves_limit)

-- a node of production p in progress: the children `all`, of which f are still to come after the first k
pub record Readies (y : Way) (g : Grammar) (lent : Lent) (f : Forest) (p : ℕ) (vs : List ℤ) (all : Forest) (k : ℕ) (fs : List Frame) (rs : List ℤ) (m : ℕ) : Type 0 where
  pub listed : p < length g.productions
  pub evaluated : Evaluated g (production_at g p) vs all
  pub next : drop_f k all ≡ f
  pub within : k ≤ length (production_at g p).right
  pub registers : Room y (registers_in g p (suc k) (length (during g p vs all rs k)) f ≤ lent.max_registers)
  pub places : Room y (suc (suc (length fs)) + depths f ≤ lent.max_places)
  pub moves : Room y (m + all_moves_in g p (suc k) f ≤ moves_limit)

pub length_waiting : (g : Grammar) (t : Tree) (x : Symbol) → WellEvaluated g t x → length (waiting g t) ≡ added_for g x
length_waiting g t x w = ap length (waiting_is g t x w) ∙ (length-append (inherited_of g t) (marks (marked_for g x)) ∙ omega (arith, length_inherited g t x w, length-replicate (marked_for g x) mark))

pub node_registers_lem : (g : Grammar) (p : ℕ) (vs : List ℤ) (f : Forest) (rs : List ℤ) → length vs ≡ added_for g (symbol_at (production_at g p) 0) → waiting g (node p vs f) ++ rs ≡ during g p vs f rs 0
node_registers_lem g p vs f rs e =
    let i = inh g (symbol_at (production_at g p) 0) in
    let s : length (drop i vs) ≡ syn g (symbol_at (production_at g p) 0) = rw length-drop (omega arith) in
    ap (λ (n : ℕ). (take i vs ++ replicate n mark) ++ rs) s ∙ append_assoc (take i vs) (replicate (syn g (symbol_at (production_at g p) 0)) mark) rs

pub node_evaluated : (g : Grammar) → WellFormed g → (x : Symbol) (p : ℕ) (vs : List ℤ) (f : Forest) → WellEvaluated g (node p vs f) x → Evaluated g (production_at g p) vs f
node_evaluated g formed x p vs f w = record {
  formed = evaluable_at g formed p w.0.listed;
  children = w.1;
  size = w.0.size ∙ ap (att g) w.0.symbol;
  ranges = w.0.ranges;
  rules = w.0.rules;
  conditions = w.0.conditions;
}

module _ (y : Way) (g : Grammar) (formed : WellFormed g) (lent : Lent) (need : ℕ) where
  leaf_run : (us : List Leaf) (t : Leaf) (x : Symbol) (q : ℕ) (is : List Instruction) (fs : List Frame) (rs : List ℤ) (n m : ℕ) → TreeExpected y g lent (leaf t) x fs rs m → RunOf y g lent need us (leaf t) x q is fs rs n m
  leaf_run us t x q is fs rs n m r =
      rw r.evaluated.0 (ends_as refl (omega arith) (omega arith) (reads y g lent need us q is fs n m t rs (room_map y (λ z. omega (arith, z)) r.moves) r.registers))

  pub node_ready : (p : ℕ) (vs : List ℤ) (f : Forest) (x : Symbol) (fs : List Frame) (rs : List ℤ) (m : ℕ) → TreeExpected y g lent (node p vs f) x fs rs m → Readies y g lent f p vs f 0 fs rs (suc m)
  node_ready p vs f x fs rs m r =
      let e = node_evaluated g formed x p vs f r.evaluated in
      let few = formed.productions.1 in
      let listed = r.evaluated.0.listed in
      record {
        listed = r.evaluated.0.listed;
        evaluated = e;
        next = refl;
        within = zero-le;
        registers = subst (λ (z : List ℤ). Room y (registers_in g p 1 (length z) f ≤ lent.max_registers)) (node_registers_lem g p vs f rs e.size) r.registers;
        places = room_map y (λ z. omega (arith, z, few, listed)) r.places;
        moves = room_map y (λ z. omega (arith, z, few, listed)) r.moves;
      }

  -- the predict of a node
  pub node_enters : (us : List Leaf) (p : ℕ) (vs : List ℤ) (f : Forest) (x : Symbol) (q : ℕ) (is : List Instruction) (fs : List Frame) (rs : List ℤ) (n m : ℕ)
      → TreeExpected y g lent (node p vs f) x fs rs m → need ≤ length (yields f ++ us) → Chosen g us p vs f
      → Goes y g lent need (yields f ++ us) (config (frame q (expect x ∷ is) ∷ fs) (waiting g (node p vs f) ++ rs) n m) (yields f ++ us)
      (config (frame p (scheme g (production_at g p)) ∷ frame q (expect x ∷ is) ∷ fs) (during g p vs f rs 0) n (suc m))
  node_enters us p vs f x q is fs rs n m r see pick =
      let e = node_evaluated g formed x p vs f r.evaluated in
      let z = (production_at g p).left in
      let few = formed.productions.1 in
      let listed = r.evaluated.0.listed in
      let begin : config (frame p (scheme g (production_at g p)) ∷ frame q (expect (nonterminal z) ∷ is) ∷ fs) (during g p vs f rs 0) n (suc m)
      ≡ config (frame p (scheme_at g p) ∷ frame q (expect (nonterminal z) ∷ is) ∷ fs) (waiting g (node p vs f) ++ rs) n (suc m) =
      sym (λ i. config (frame p (scheme_listed g formed p listed i) ∷ frame q (expect (nonterminal z) ∷ is) ∷ fs) (node_registers_lem g p vs f rs e.size i) n (suc m)) in
      rw r.evaluated.0.symbol
      (subst (λ (c : Config). Goes y g lent need (yields f ++ us) (config (frame q (expect (nonterminal z) ∷ is) ∷ fs) (waiting g (node p vs f) ++ rs) n m) (yields f ++ us) c) (sym begin)
      (predicts y g lent need (yields f ++ us) q is fs n m z p (waiting g (node p vs f) ++ rs) (room_map y (λ w. omega (arith, w, few, listed)) r.moves) (room_map y (λ w. omega (arith, w, few, listed)) r.places) see (pick rs)))

  node_run : (us : List Leaf) (p : ℕ) (vs : List ℤ) (f : Forest) (x : Symbol) (q : ℕ) (is : List Instruction) (fs : List Frame) (rs : List ℤ) (n m : ℕ)
      → TreeExpected y g lent (node p vs f) x fs rs m → need ≤ length (yields f ++ us) → Chosen g us p vs f → RunsOf y g lent need us f p vs f 0 x q is fs rs n (suc m)
      → RunOf y g lent need us (node p vs f) x q is fs rs n m
  node_run us p vs f x q is fs rs n m r see pick s = node_enters us p vs f x q is fs rs n m r see pick on ends_as refl refl (omega arith) s

  none_run : (us : List Leaf) (p : ℕ) (vs : List ℤ) (all : Forest) (k : ℕ) (x : Symbol) (q : ℕ) (is : List Instruction) (fs : List Frame) (rs : List ℤ) (n m : ℕ) → Readies y g lent no_trees p vs all k fs rs m → RunsOf y g lent need us no_trees p vs all k x q is fs rs n m
  none_run us p vs all k x q is fs rs n m r =
      let pr = production_at g p in
      let e = r.evaluated in
      let o = drop_f_over g k all pr.right e.children r.next in
      let i = r.within in
      let end : k ≡ length pr.right = omega arith in
      let empty : drop k pr.right ≡ [] = ap (λ (j : ℕ). drop j pr.right) end ∙ drop-length pr.right in
      let tail = replicate (syn g (symbol_at pr 0)) mark ++ rs in
      let begin : config (frame p (symbols_scheme g pr (suc k) (drop k pr.right) (scheme_end g pr)) ∷ frame q (expect x ∷ is) ∷ fs) (under g pr vs all tail k) n m
      ≡ config (frame p (scheme_end g pr) ∷ frame q (expect x ∷ is) ∷ fs) (full g pr vs all e rs) n m =
      λ j. config (frame p (symbols_scheme g pr (suc k) (empty j) (scheme_end g pr)) ∷ frame q (expect x ∷ is) ∷ fs) (under g pr vs all tail (end j)) n m in
      begins_as refl begin (ends_as refl (sym (add-zero n)) refl (ends y g lent need us pr vs all e p q x is fs rs n m r.moves))

  pub child_ready : (t : Tree) (f : Forest) (p : ℕ) (vs : List ℤ) (all : Forest) (k : ℕ) (fr : Frame) (fs : List Frame) (rs : List ℤ) (m : ℕ)
      → Readies y g lent (tree_and t f) p vs all k fs rs m → TreeExpected y g lent t (symbol_at (production_at g p) (suc k)) (fr ∷ fs) (during g p vs all rs k) (at_child g p k m)
  child_ready t f p vs all k fr fs rs m r =
      let pr = production_at g p in
      let e = r.evaluated in
      let tail = replicate (syn g (symbol_at pr 0)) mark ++ rs in
      let h = drop_f_within g k all pr.right t f e.children r.next in
      let w : WellEvaluated g t (symbol_at pr (suc k)) = subst (λ (z : Tree). WellEvaluated g z (symbol_at pr (suc k))) (drop_f_child k all t f r.next) (child_fits g pr vs all e tail k h) in
      let a = length-append (waiting g t) (under g pr vs all tail k) in
      let b = length_waiting g t (symbol_at pr (suc k)) w in
      let size : length (waiting g t ++ under g pr vs all tail k) ≡ length (under g pr vs all tail k) + added_for g (symbol_at pr (suc k)) = omega arith in
      record {
        evaluated = w;
        registers = rw size (room_map y (λ z. omega (arith, z)) r.registers);
        places = room_map y (λ z. omega (arith, z)) r.places;
        moves = room_map y (λ z. omega (arith, z)) r.moves;
      }

  pub rest_ready : (t : Tree) (f : Forest) (p : ℕ) (vs : List ℤ) (all : Forest) (k : ℕ) (fs : List Frame) (rs : List ℤ) (m : ℕ) → Readies y g lent (tree_and t f) p vs all k fs rs m → Readies y g lent f p vs all (suc k) fs rs (past_child g p k t m)
  rest_ready t f p vs all k fs rs m r =
      let pr = production_at g p in
      let e = r.evaluated in
      let tail = replicate (syn g (symbol_at pr 0)) mark ++ rs in
      let h = drop_f_within g k all pr.right t f e.children r.next in
      let u = under g pr vs all tail k in
      let a : length (under g pr vs all tail (suc k)) ≡ length (synthesized_of g (child all k) ++ u) = ap length (under_next g pr vs all tail k) in
      let b = length-append (synthesized_of g (child all k)) u in
      let c = syn_size g (child all k) (symbol_at pr (suc k)) (child_fits g pr vs all e tail k h) in
      let size : length (under g pr vs all tail (suc k)) ≡ length u + syn g (symbol_at pr (suc k)) = omega arith in
      record {
        listed = r.listed;
        evaluated = e;
        next = drop_f_next k all t f r.next;
        within = h;
        registers = rw size (room_map y (λ z. omega (arith, z)) r.registers);
        places = room_map y (λ z. omega (arith, z)) r.places;
        moves = room_map y (λ z. omega (arith, z)) r.moves;
      }

  -- the moves before a child, and those after it
  pub child_enters : (us : List Leaf) (t : Tree) (f : Forest) (p : ℕ) (vs : List ℤ) (all : Forest) (k : ℕ) (gs fs : List Frame) (rs : List ℤ) (n m : ℕ)
      → Readies y g lent (tree_and t f) p vs all k fs rs m
      → Goes y g lent need us (config (progress g p k ∷ gs) (during g p vs all rs k) n m) us
      (config (expecting g p k ∷ gs) (waiting g t ++ during g p vs all rs k) n (at_child g p k m))
  child_enters us t f p vs all k gs fs rs n m r =
      let pr = production_at g p in
      let e = r.evaluated in
      let tail = replicate (syn g (symbol_at pr 0)) mark ++ rs in
      let h = drop_f_within g k all pr.right t f e.children r.next in
      let u₀ = under g pr vs all tail k in
      let ct = drop_f_child k all t f r.next in
      let onward = symbols_scheme g pr (suc (suc k)) (drop (suc k) pr.right) (scheme_end g pr) in
      let big = room g t (length u₀ + added_for g (symbol_at pr (suc k))) in
      let begin : config (frame p (symbols_scheme g pr (suc k) (drop k pr.right) (scheme_end g pr)) ∷ gs) u₀ n m
      ≡ config (frame p (symbol_scheme g pr (suc k) (symbol_at pr (suc k)) onward) ∷ gs) u₀ n m =
      λ i. config (frame p (symbols_scheme g pr (suc k) (drop-cons pr.right k (terminal 0) h i) (scheme_end g pr)) ∷ gs) u₀ n m in
      begins_as refl begin (ends_as (ap (λ (z : Tree). waiting g z ++ u₀) ct) refl refl (reaches y g lent need us pr vs all e tail k h p onward gs n m (room_map y (λ z. omega (arith, z, big)) r.registers) (room_map y (λ z. omega (arith, z)) r.moves)))

  pub child_leaves : (us : List Leaf) (t : Tree) (f : Forest) (p : ℕ) (vs : List ℤ) (all : Forest) (k : ℕ) (gs fs : List Frame) (rs : List ℤ) (n m : ℕ)
      → Readies y g lent (tree_and t f) p vs all k fs rs m
      → Goes y g lent need us (config (frame p (afterward g (production_at g p) k) ∷ gs) (synthesized_of g t ++ during g p vs all rs k) n (at_child g p k m + all_moves g t)) us
      (config (progress g p (suc k) ∷ gs) (during g p vs all rs (suc k)) n (past_child g p k t m))
  child_leaves us t f p vs all k gs fs rs n m r =
      let pr = production_at g p in
      let e = r.evaluated in
      let tail = replicate (syn g (symbol_at pr 0)) mark ++ rs in
      let h = drop_f_within g k all pr.right t f e.children r.next in
      let u₀ = under g pr vs all tail k in
      let back : t ≡ child all k = sym (drop_f_child k all t f r.next) in
      let onward = symbols_scheme g pr (suc (suc k)) (drop (suc k) pr.right) (scheme_end g pr) in
      let m₂ = m + to_child g pr (suc k) + all_moves g t in
      begins_as refl (λ i. config (frame p (afterward g (production_at g p) k) ∷ gs) (synthesized_of g (back i) ++ u₀) n m₂) (leaves y g lent need us pr vs all e tail k h p onward gs n m₂ (room_map y (λ z. omega (arith, z)) r.moves))

  more_run : (us : List Leaf) (t : Tree) (f : Forest) (p : ℕ) (vs : List ℤ) (all : Forest) (k : ℕ) (x : Symbol) (q : ℕ) (is : List Instruction) (fs : List Frame) (rs : List ℤ)
      (n m : ℕ) → Readies y g lent (tree_and t f) p vs all k fs rs m
      → RunOf y g lent need (yields f ++ us) t (symbol_at (production_at g p) (suc k)) p (afterward g (production_at g p) k) (frame q (expect x ∷ is) ∷ fs) (during g p vs all rs k) n
      (at_child g p k m) → RunsOf y g lent need us f p vs all (suc k) x q is fs rs (n + width t) (past_child g p k t m)
      → RunsOf y g lent need us (tree_and t f) p vs all k x q is fs rs n m
  more_run us t f p vs all k x q is fs rs n m r s u =
      let gs = frame q (expect x ∷ is) ∷ fs in
      let wide = length-append (yield t) (yields f) in
      begins_as (append_assoc (yield t) (yields f) us) refl
      (child_enters (yield t ++ (yields f ++ us)) t f p vs all k gs fs rs n m r
      on s
      on child_leaves (yields f ++ us) t f p vs all k gs fs rs (n + width t) m r
      on ends_as refl (omega arith) (omega arith) u)

  mutual
    -- from where the symbol of a well evaluated tree is expected to where it is left
    pub walks : (t : Tree) (us : List Leaf) (x : Symbol) (q : ℕ) (is : List Instruction) (fs : List Frame) (rs : List ℤ) (n m : ℕ) → Predicted g need us t → TreeExpected y g lent t x fs rs m → RunOf y g lent need us t x q is fs rs n m
    walks (leaf t) us x q is fs rs n m o r = leaf_run us t x q is fs rs n m r
    walks (node p vs f) us x q is fs rs n m o r = node_run us p vs f x q is fs rs n m r o.0 o.1 (walks_in f us p vs f 0 x q is fs rs n (suc m) o.2 (node_ready p vs f x fs rs m r))

    pub walks_in : (f : Forest) (us : List Leaf) (p : ℕ) (vs : List ℤ) (all : Forest) (k : ℕ) (x : Symbol) (q : ℕ) (is : List Instruction) (fs : List Frame) (rs : List ℤ) (n m : ℕ)
        → Predicteds g need us f → Readies y g lent f p vs all k fs rs m → RunsOf y g lent need us f p vs all k x q is fs rs n m
    walks_in no_trees us p vs all k x q is fs rs n m o r = none_run us p vs all k x q is fs rs n m r
    walks_in (tree_and t f) us p vs all k x q is fs rs n m o r =
        more_run us t f p vs all k x q is fs rs n m r
        (walks t (yields f ++ us) (symbol_at (production_at g p) (suc k)) p (afterward g (production_at g p) k) (frame q (expect x ∷ is) ∷ fs) (during g p vs all rs k) n (at_child g p k m) o.0 (child_ready t f p vs all k (frame q (expect x ∷ is)) fs rs m r))
        (walks_in f us p vs all (suc k) x q is fs rs (n + width t) (past_child g p k t m) o.1 (rest_ready t f p vs all k fs rs m r))
