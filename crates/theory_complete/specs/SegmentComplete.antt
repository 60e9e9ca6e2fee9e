-- A segment that has a tree, on stacks that its walk fits: after each feed the machine shows the tree's picture, and the finish leaves its values. That the predicts find the tree's productions is a premise here, and shown in Predicting.
use Rattle.std.specs.Prelude.{ℕ, suc, ◌+◌, ◌-◌, ◌<◌, ◌≡◌, refl, ◌⊎◌, Bool, true, false, List, [], ◌∷◌, ◌++◌, map, length, replicate, T, ℤ}
use Rattle.std.proofs.Common.{zero-le, arith, sym, ap, ◌∙◌, subst, inl, inr, append-nil, length-append, nltb→le}
use Rattle.std.proofs.Math.Nat.{sub-zero}
use Rattle.std.proofs.lemmas.List.{length-replicate}
use Rattle.std.proofs.Math.Seq.{drop-append_seam}
use Rattle.meaning.specs.Grammar.{Symbol, nonterminal, Grammar, syn, production_at, whole, Leaf, segment_place}
use Rattle.meaning.specs.Value.{mark}
use Rattle.meaning.specs.Scheme.{expect}
use Rattle.meaning.specs.Machine.{Config, Lent, stopped, waits, opening, feed_all, finish_all, place_of}
use Rattle.meaning.specs.Tree.{Tree, Forest, leaf, node, no_trees, tree_and, yield, yields, width, WellEvaluated, WellEvaluateds, inherited_of, synthesized_of, waiting, is_opened, is_left, draw, picture, is_leaf_of}
use Rattle.theory_base.specs.MoveCounts.{moves_of, past_end}
use Rattle.theory_base.specs.WalkCounts.{moves_all}
use Rattle.meaning.specs.Walk.{walk}
use Rattle.meaning.specs.Drawn.{WalkFits}
use Rattle.meaning.specs.Rules.{WellFormed, Known}
use Rattle.meaning.specs.Base.{In, all}
use Rattle.meaning.specs.Part.{config, frame}
use Rattle.theory_base.specs.Members.{no_elements, in_left, in_append, and, all_append}
use Rattle.theory_base.specs.Walks.{all_moves, all_left, all_moves_lem, left_moves, left_width, moves_le}
use Rattle.theory_base.specs.WellFormed.{well_formed_at}
use Rattle.theory_sets.specs.Tests.{all_left as all_front}
use Rattle.theory_complete.specs.NodeInProgressGood.{length_inherited, waiting_is}
use Rattle.theory_complete.specs.Run.{Steps, retime, restart, fitting, steps_of}
use Rattle.theory_complete.specs.PredictsOfWalk.{Foreseen, foresee_all, foresee_left}
use Rattle.theory_complete.specs.SubtreeComplete.{TreeExpected, walks, RunOf}
use Rattle.theory_complete.specs.Feeding.{feeds, feeds_on, finishes}
use Rattle.theory_complete.specs.StopIsPicture.{stops, Cut, below, unopened_moves}

-- ---- every token of a tree is a token of the grammar

either : {A B C : Type 0} → A ⊎ B → (A → C) → (B → C) → C
either (inl a) f h = f a
either (inr b) f h = h b

module _ (g : Grammar) (formed : WellFormed g) where
  mutual
    pub tokens_known : (t : Tree) (x : Symbol) → Known g x → WellEvaluated g t x → (u : Leaf) → In u (yield t) → u.kind < g.terminals
    tokens_known (leaf t) x k w u (inl e) = rw e (subst (Known g) w.0 k)
    tokens_known (leaf t) x k w u (inr i) = absurd i
    tokens_known (node p vs f) x k w u i = tokens_knowns f (production_at g p).right (well_formed_at g formed p w.0.listed).symbols w.1 u i

    pub tokens_knowns : (f : Forest) (xs : List Symbol) → ((x : Symbol) → In x xs → Known g x) → WellEvaluateds g f xs → (u : Leaf) → In u (yields f) → u.kind < g.terminals
    tokens_knowns no_trees xs a w u i = absurd i
    tokens_knowns (tree_and t f) [] a w u i = absurd w
    tokens_knowns (tree_and t f) (x ∷ xs) a w u i = either (in_append u (yield t) (yields f) i) (λ j. tokens_known t x (a x (inl refl)) w.0 u j) (λ j. tokens_knowns f xs (λ y k. a y (inr k)) w.1 u j)

  -- ---- and each has the values of its terminal

  mutual
    pub leaves_known : (t : Tree) (x : Symbol) → WellEvaluated g t x → T (all (is_leaf_of g) (yield t))
    leaves_known (leaf t) x w = and (is_leaf_of g t) true w.1 tt
    leaves_known (node p vs f) x w = leaves_knowns f (production_at g p).right w.1

    pub leaves_knowns : (f : Forest) (xs : List Symbol) → WellEvaluateds g f xs → T (all (is_leaf_of g) (yields f))
    leaves_knowns no_trees xs w = tt
    leaves_knowns (tree_and t f) [] w = absurd w
    leaves_knowns (tree_and t f) (x ∷ xs) w = all_append (is_leaf_of g) (yield t) (yields f) (leaves_known t x w.0) (leaves_knowns f xs w.1)

  -- ---- the opening

  pub open_waiting : (t : Tree) → WellEvaluated g t (nonterminal g.start) → waiting g t ≡ replicate (syn g (nonterminal g.start)) mark
  open_waiting t w =
      let i : inherited_of g t ≡ [] = no_elements (inherited_of g t) (length_inherited g t (nonterminal g.start) w ∙ formed.start_alone) in
      waiting_is g t (nonterminal g.start) w ∙ ap (λ z. z ++ replicate (syn g (nonterminal g.start)) mark) i

  -- the start symbol of a well evaluated tree is expected
  pub opening_expects : (t : Tree) → WellEvaluated g t (nonterminal g.start) → opening g ≡ config (frame whole (expect (nonterminal g.start) ∷ []) ∷ []) (waiting g t ++ []) 0 0
  opening_expects t w =
      let e : replicate (syn g (nonterminal g.start)) mark ≡ waiting g t ++ [] = sym (append-nil (waiting g t) ∙ open_waiting t w) in
      λ i. config (frame whole (expect (nonterminal g.start) ∷ []) ∷ []) (e i) 0 0

module _ (g : Grammar) (formed : WellFormed g) (lent : Lent) (t : Tree) (o : Foreseen g [] t) (w : WellEvaluated g t (nonterminal g.start)) (fits : WalkFits g lent t) where
  abbrev S : Symbol
  S = nonterminal g.start

  ready : TreeExpected fitting g lent t S [] [] 0
  ready =
      let n : length (waiting g t ++ []) ≡ syn g S = rw (append-nil, open_waiting g formed t w, length-replicate) in
      let m = all_moves_lem g t (past_end t) 0 (omega arith) in
      let k = moves_all g formed S t w in
      let fr = fits.registers in
      let fp = fits.places in
      let fm = fits.moves in
      record { evaluated = w; registers = rw n fr; places = omega arith; moves = omega arith }

  -- the configuration after the end
  abbrev pub final : Config
  final = config (frame whole [] ∷ []) (synthesized_of g t) (width t) (all_moves g t)

  walked : (need : ℕ) → RunOf fitting g lent need [] t S whole [] [] [] 0 0 → Steps g lent need (yield t) (opening g) [] final
  walked need s = restart (sym (append-nil (yield t))) (opening_expects g formed t w) (retime (append-nil (synthesized_of g t)) (omega arith) (omega arith) (steps_of s))

  pub all_walked : Steps g lent 0 (yield t) (opening g) [] final
  all_walked = walked 0 (walks fitting g formed lent 0 t [] S whole [] [] [] 0 0 (foresee_all g t [] o) ready)

  -- ---- after some tokens

  -- what a feed of ts leaves: the picture after its tokens
  pub record Shows (ts : List Leaf) : Type 0 where
    pub seen : T (all (is_leaf_of g) ts)
    pub at : Config
    pub stops : feed_all g lent ts (opening g) ≡ stopped at
    pub rests : waits at.frames ≡ true
    pub registers : at.registers ≡ (picture g (length ts) t).registers
    pub places : map (place_of g) at.frames ≡ (picture g (length ts) t).places
    pub tokens : at.tokens ≡ length ts
    pub moves : at.moves ≡ moves_of g (length ts) 0 t

  module _ (ts us : List Leaf) (read : yield t ≡ ts ++ us) where
    known : (u : Leaf) → In u ts → u.kind < g.terminals
    known u i = tokens_known g formed t S formed.start w u (rw read (in_left u ts us i))

    prefix : T (all (is_leaf_of g) ts)
    prefix = all_front (is_leaf_of g) ts us (subst (λ z. T (all (is_leaf_of g) z)) read (leaves_known g formed t S w))

    sizes : width t ≡ length ts + length us
    sizes = ap length read ∙ length-append ts us

    shows_left : is_left (length ts) 0 t ≡ true → Shows ts
    shows_left l =
        let z = sizes in
        let h = left_width t (length ts) 0 zero-le l in
        let e : us ≡ [] = no_elements us (omega arith) in
        let ft = fits.tokens in
        let r = ready in
        let rm = r.moves in
        let p = foresee_left g (length us) (length ts) t 0 [] (rw (length-append, sizes) (omega arith)) l o in
        let n = suc (length us) in
        let w₀ = walked n (walks fitting g formed lent n t [] S whole [] [] [] 0 0 p r) in
        let w₁ = subst (λ (v : List Leaf). Steps g lent n v (opening g) [] final) read w₀ in
        let s : Steps g lent n (ts ++ us) (opening g) us final = subst (λ (v : List Leaf). Steps g lent n (ts ++ us) (opening g) v final) (sym e) w₁ in
        record {
          seen = prefix;
          at = final;
          stops = feeds g lent (suc (length us)) ts us s refl refl refl known (omega arith) (omega arith);
          rests = refl;
          registers = rw l;
          places = rw l;
          tokens = omega arith;
          moves = sym (left_moves g t (length ts) 0 l);
        }

    shows_stopped : is_opened (length ts) 0 ≡ true → is_left (length ts) 0 t ≡ false → Shows ts
    shows_stopped h l =
        let z = sizes in
        let j = length ts in
        let e : yield t ++ [] ≡ ts ++ us = append-nil (yield t) ∙ read in
        let c : Cut g formed lent (length us) j us (yield t ++ []) 0 = record { size = rw (length-append, sizes) (omega arith); seen = rw (sub-zero, e) (drop-append_seam ts us) } in
        let r = ready in
        let rm = r.moves in
        let ft = fits.tokens in
        let few = moves_le g t j 0 in
        let q = stops g formed lent (length us) j us t [] 0 S whole [] [] [] 0 0 o r c h l in
        record {
          seen = prefix;
          at = config q.frames (draw g j 0 t (below g (frame whole (expect S ∷ []) ∷ []) (waiting g t ++ []))).registers (0 + (j - 0)) (0 + moves_of g j 0 t);
          stops = feeds g lent (suc (length us)) ts us (restart (sym e) (opening_expects g formed t w) q.run) refl refl q.rests known (omega arith) (omega arith);
          rests = q.rests;
          registers = rw (l, h) (ap (λ (r : List ℤ). (draw g j 0 t (record { places = segment_place ∷ []; registers = r })).registers) (append-nil (waiting g t)));
          places = q.places ∙ rw (l, h) (ap (λ (r : List ℤ). (draw g j 0 t (record { places = segment_place ∷ []; registers = r })).places) (append-nil (waiting g t)));
          tokens = omega arith;
          moves = omega arith;
        }

    shows_unopened : is_opened (length ts) 0 ≡ false → is_left (length ts) 0 t ≡ false → Shows ts
    shows_unopened h l =
        let n = nltb→le 0 (length ts) (rw h tt) in
        let e : ts ≡ [] = no_elements ts (omega arith) in
        record {
          seen = prefix;
          at = opening g;
          stops = ap (λ (v : List Leaf). feed_all g lent v (opening g)) e;
          rests = refl;
          registers = rw (l, h) (sym (open_waiting g formed t w));
          places = rw (l, h);
          tokens = omega arith;
          moves = sym (unopened_moves g t (length ts) 0 h);
        }

    -- after each feed the machine shows the tree's picture
    pub shows : Shows ts
    shows = go (is_left (length ts) 0 t) refl (is_opened (length ts) 0) refl
      where
        go : (l : Bool) → is_left (length ts) 0 t ≡ l → (h : Bool) → is_opened (length ts) 0 ≡ h → Shows ts
        go true l h e = shows_left l
        go false l true e = shows_stopped e l
        go false l false e = shows_unopened e l

  -- ---- after the end

  -- what feeding all the tokens and finishing leaves
  pub record Ends (ts : List Leaf) : Type 0 where
    pub fed : Config
    pub feeding : feed_all g lent ts (opening g) ≡ stopped fed
    pub finishing : finish_all g lent fed ≡ stopped final

  pub ends : (ts : List Leaf) → yield t ≡ ts → Ends ts
  ends ts read =
      let e : yield t ≡ ts ++ [] = read ∙ sym (append-nil ts) in
      let s : Steps g lent 0 (ts ++ []) (opening g) [] final = subst (λ (v : List Leaf). Steps g lent 0 v (opening g) [] final) e all_walked in
      let rm = ready.moves in
      let ft = fits.tokens in
      let z = ap length read in
      let r = feeds_on g lent 0 ts [] s (omega arith) refl refl (known ts [] e) (omega arith) (omega arith) in
      record { fed = r.at; feeding = r.stops; finishing = finishes g lent 0 r.rest refl (omega arith) }

  -- final is what is drawn after the end
  pub final_registers : final.registers ≡ (picture g (past_end t) t).registers
  final_registers = rw (all_left t (past_end t) 0 (omega arith))

  pub final_places : map (place_of g) final.frames ≡ (picture g (past_end t) t).places
  final_places = rw (all_left t (past_end t) 0 (omega arith))

  pub final_moves : final.moves ≡ length (walk g t)
  final_moves = sym (all_moves_lem g t (past_end t) 0 (omega arith)) ∙ moves_all g formed S t w
