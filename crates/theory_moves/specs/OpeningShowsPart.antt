-- Whatever the opening leads to shows a good part that has read a first part of the stream. If the stream has a tree, the part has begun it and the moves made are the first of its walk.
use Rattle.std.specs.Prelude.{ℕ, suc, ◌-◌, ◌<◌, ◌≡◌, refl, ◌⊎◌, List, [], ◌∷◌, ◌++◌, length, drop, T}
use Rattle.std.proofs.Common.{arith, sym, ap, ◌∙◌, subst₂, inl, inr, append_assoc, append-nil}
use Rattle.std.proofs.lemmas.List.{length-map}
use Rattle.std.proofs.Math.Seq.{take-nil}
use Rattle.meaning.specs.Base.{keep, In, all}
use Rattle.meaning.specs.Grammar.{Grammar, nonterminal, inh, production_at, Leaf}
use Rattle.meaning.specs.Scheme.{Instruction}
use Rattle.meaning.specs.Machine.{Frame, Config, Lent, moved, next, opening, look_at, unread, alternatives, entered, as_look, comes}
use Rattle.meaning.specs.Tree.{Tree, no_trees, tree_and, TreeOf, is_leaf_of}
use Rattle.meaning.specs.Rules.{WellFormed}
use Rattle.meaning.specs.Part.{yield_part, frame, draw_frame, draw_registers}
use Rattle.meaning.specs.Walk.{Act, walk, top_production, act_by, Makes, nothing, and_then}
use Rattle.theory_answers.specs.Runs.{look_is, is_ahead, makes_leaves}
use Rattle.theory_sound.specs.MovesKeepPart.{Moved}
use Rattle.theory_sound.specs.RunsShowPart.{Shows, opening_shows, moves_to, shows_same, shows_read}
use Rattle.theory_sound.specs.BelowUnchanged.{only_predict}
use Rattle.theory_complete.specs.PredictsOfWalk.{Foreseen}
use Rattle.theory_moves.specs.BegunKept.{Begun, still, begun_move}
use Rattle.theory_moves.specs.Remaining.{remaining, first_move}

-- by the moves ws, c has read a first part of the stream, us is still to come
pub record Made (g : Grammar) (stream : List Leaf) (ws : List Act) (us : List Leaf) (c : Config) : Type 0 where
  pub read : List Leaf
  pub split : stream ≡ read ++ us
  pub shows : Shows g read c
  pub of_tree : (t : Tree) → TreeOf g stream t → Begun g t shows.part.node shows.part.below
  pub walked : (t : Tree) → TreeOf g stream t → ws ++ remaining g t shows.part ≡ walk g t

module _ (g : Grammar) (formed : WellFormed g) (lent : Lent) (stream : List Leaf) (proper : T (all (is_leaf_of g) stream)) (foreseen : (t : Tree) → TreeOf g stream t → Foreseen g [] t) where
  made_nothing : Made g stream [] stream (opening g)
  made_nothing = record {
    read = [];
    split = refl;
    shows = opening_shows g formed;
    of_tree = λ t w. record { values = []; ahead = tree_and t no_trees; rest = []; along = record { is_root = refl; is_rest = refl }; inherited = take-nil (inh g (nonterminal 255)) };
    walked = λ t w. append-nil (walk g t ++ []) ∙ append-nil (walk g t);
  }

  -- the production of a predict, as the part shows it
  picked : (ws : List Act) (vs : List Leaf) (d e : Config) (m : Made g stream ws vs d) (v : Moved g (look_at vs) m.shows.part.node m.shows.part.below d.tokens d.moves e) → next g lent (look_at vs) d ≡ moved e
      → length m.shows.part.below < length v.part.below → In v.part.node.production (keep (entered g (draw_registers g v.part)) (alternatives g (production_at g v.part.node.production).left (as_look (look_at vs))))
  picked ws vs d e m v h deeper =
      let old = length-map m.shows.part.below (draw_frame g) in
      let new = length-map v.part.below (draw_frame g) in
      let k = only_predict g lent (look_at vs) d e h (omega (arith, deeper, old, new, ap length m.shows.frames, ap length v.frames)) in
      let p : k.1.production ≡ v.part.node.production = ap (λ z. top_production z.frames) k.1.result ∙ sym (ap top_production v.frames) in
      let n : k.0 ≡ (production_at g v.part.node.production).left = sym k.1.left ∙ ap (λ z. (production_at g z).left) p in
      let rs : d.registers ≡ draw_registers g v.part = ap (λ z. z.registers) k.1.result ∙ sym v.registers in
      let left = (production_at g v.part.node.production).left in
      let look = as_look (look_at vs) in
      let sets : keep (entered g d.registers) (alternatives g k.0 look) ≡ keep (entered g (draw_registers g v.part)) (alternatives g left look) = λ j. keep (entered g (rs j)) (alternatives g (n j) look) in
      subst₂ (λ z zs. In z zs) p sets k.1.among

  made_more : (ws : List Act) (vs : List Leaf) → T (all (is_leaf_of g) vs) → (d e : Config) → Made g stream ws vs d → (p : ℕ) (i : Instruction) (is : List Instruction) (fs : List Frame)
      → d.frames ≡ frame p (i ∷ is) ∷ fs → next g lent (look_at vs) d ≡ moved e → Made g stream (ws ++ (act_by p i e ∷ [])) (unread d e vs) e
  made_more ws vs ok d e m p i is fs now h = go v.reading
    where
      s : Shows g m.read d
      s = m.shows

      v : Moved g (look_at vs) s.part.node s.part.below d.tokens d.moves e
      v = moves_to g formed lent (look_at vs) (is_ahead g vs ok) m.read d e s h

      begun : (t : Tree) → TreeOf g stream t → Begun g t v.part.node v.part.below
      begun t w =
          let b = m.of_tree t w in
          begun_move g formed t w.evaluated (foreseen t w) v.grown v.good s.good.node.0.sized vs refl (picked ws vs d e m v h) b (still g t s.part.node s.part.below b m.read vs s.read (w.read ∙ m.split))

      acts : (t : Tree) → TreeOf g stream t → (ws ++ (act_by p i e ∷ [])) ++ remaining g t v.part ≡ walk g t
      acts t w = append_assoc ws (act_by p i e ∷ []) (remaining g t v.part) ∙ (ap (λ z. ws ++ z) (sym (first_move g formed lent (look_at vs) t m.read d e s v p i is fs now h (begun t w))) ∙ m.walked t w)

      go : ((d.tokens ≡ e.tokens) × (yield_part s.part ≡ yield_part v.part)) ⊎ ((c : Leaf) × (look_at vs ≡ comes c) × (suc d.tokens ≡ e.tokens) × (yield_part s.part ++ (c ∷ []) ≡ yield_part v.part)) → Made g stream (ws ++ (act_by p i e ∷ [])) (unread d e vs) e
      go (inl r) =
          let none : e.tokens - d.tokens ≡ 0 = omega (arith, r.0) in
          record {
            read = m.read;
            split = m.split ∙ ap (λ n. m.read ++ drop n vs) (sym none);
            shows = shows_same g formed lent (look_at vs) (is_ahead g vs ok) m.read d e s v r.0 r.1;
            of_tree = begun;
            walked = acts;
          }
      go (inr r) =
          let one : e.tokens - d.tokens ≡ 1 = omega (arith, r.2) in
          let rest : (r.0 ∷ []) ++ drop (e.tokens - d.tokens) vs ≡ vs = ap (λ n. r.0 ∷ drop n vs) one ∙ sym (look_is vs r.0 r.1) in
          record {
            read = m.read ++ (r.0 ∷ []);
            split = m.split ∙ (ap (λ z. m.read ++ z) (sym rest) ∙ sym (append_assoc m.read (r.0 ∷ []) (drop (e.tokens - d.tokens) vs)));
            shows = shows_read g formed lent (look_at vs) (is_ahead g vs ok) m.read d e s v r.0 r.2 r.3;
            of_tree = begun;
            walked = acts;
          }

  pub made : (ws : List Act) (us : List Leaf) (c : Config) → Makes g lent stream (opening g) ws us c → Made g stream ws us c
  made ws us c nothing = made_nothing
  made ws us c (and_then {ws = xs} {vs = vs} {d = d} p i is fs e k cf h) = made_more xs vs (makes_leaves g lent proper k) d e (made xs vs d k) p i is fs cf h
