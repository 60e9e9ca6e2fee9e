-- Every run from the opening shows a good part whose yield is the tokens read, at each stop.
use Rattle.std.specs.Prelude.{suc, ◌≡◌, refl, ◌⊎◌, List, [], ◌∷◌, ◌++◌, T, length}
use Rattle.std.proofs.Common.{arith, sym, ap, ◌∙◌, subst, inl, inr, append-nil, length-append}
use Rattle.theory_answers.specs.ShapeMoves.{IsAhead}
use Rattle.meaning.specs.Tree.{is_leaf_of}
use Rattle.meaning.specs.Base.{all}
use Rattle.meaning.specs.Grammar.{nonterminal, Grammar, syn, whole, Leaf}
use Rattle.meaning.specs.Machine.{Config, Lent, moved, stopped, feed_all, finish_all, opening, next, is_finished, Coming, comes}
use Rattle.meaning.specs.Rules.{WellFormed}
use Rattle.meaning.specs.Part.{config, marks, valued, Part, yield_part, draw_frames, draw_registers, draw_part, Good}
use Rattle.theory_base.specs.WellFormed.{whole_counts}
use Rattle.theory_sound.specs.Counting.{MovesAre}
use Rattle.theory_sound.specs.KeptByCalls.{Kept, Stopped, keep_feed, keep_finish}
use Rattle.theory_sound.specs.MovesKeepPart.{Moved, from_point, node_of, part_of}

-- a configuration that shows a good part which has read ts
pub record Shows (g : Grammar) (ts : List Leaf) (c : Config) : Type 0 where
  pub part : Part
  pub good : Good g part
  pub frames : draw_frames g part ≡ c.frames
  pub registers : draw_registers g part ≡ c.registers
  pub read : yield_part part ≡ ts
  pub tokens : length ts ≡ c.tokens
  pub moves : MovesAre g c.moves part

-- ---- the opening

abbrev pub empty_part : Grammar → Part
empty_part g = part_of (node_of whole [] []) (valued (nonterminal g.start) [] []) []

pub empty_good : (g : Grammar) → WellFormed g → Good g (empty_part g)
empty_good g f = record {
  node = (
    record { sized = sym (ap (λ c. c.inherited) (whole_counts g f)); ranged = tt; lefts = tt; rules = λ r i. absurd i },
    (refl, (λ c i. absurd i), record { sized = sym f.start_alone; ranged = tt; rules = λ r i. absurd i }),
  );
  stands = (refl, refl);
}

pub empty_registers : (g : Grammar) → WellFormed g → draw_registers g (empty_part g) ≡ (opening g).registers
empty_registers g f = let e : syn g (nonterminal 255) ≡ 0 = ap (λ c. c.synthesized) (whole_counts g f) in rw e (append-nil (marks (syn g (nonterminal g.start))))

abbrev pub opening_shows : (g : Grammar) → WellFormed g → Shows g [] (opening g)
opening_shows g f = record { part = empty_part g; good = empty_good g f; frames = refl; registers = empty_registers g f; read = refl; tokens = refl; moves = omega arith }

-- ---- a move

module _ (g : Grammar) (f : WellFormed g) (lent : Lent) (m : Coming) (ok : IsAhead g m) (ts : List Leaf) (c d : Config) (s : Shows g ts c) where
  -- the part it leads to
  pub moves_to : next g lent m c ≡ moved d → Moved g m s.part.node s.part.below c.tokens c.moves d
  moves_to h =
      let q : Part = s.part in
      let same : c ≡ draw_part g q c.tokens c.moves = λ i. config (sym s.frames i) (sym s.registers i) c.tokens c.moves in
      from_point g f lent c.tokens c.moves d q.node q.below s.good.stands m ok q.point s.good.node s.moves (subst (λ z. next g lent m z ≡ moved d) same h)

  abbrev pub shows_same : (v : Moved g m s.part.node s.part.below c.tokens c.moves d) → c.tokens ≡ d.tokens → yield_part s.part ≡ yield_part v.part → Shows g ts d
  shows_same v e y = record { part = v.part; good = v.good; frames = v.frames; registers = v.registers; read = sym y ∙ s.read; tokens = s.tokens ∙ e; moves = v.counts }

  abbrev pub shows_read : (v : Moved g m s.part.node s.part.below c.tokens c.moves d) (t : Leaf) → suc c.tokens ≡ d.tokens → yield_part s.part ++ (t ∷ []) ≡ yield_part v.part → Shows g (ts ++ (t ∷ [])) d
  shows_read v t e y = record { part = v.part; good = v.good; frames = v.frames; registers = v.registers; read = sym y ∙ ap (λ z. z ++ (t ∷ [])) s.read; tokens = length-append ts (t ∷ []) ∙ omega (arith, s.tokens, e); moves = v.counts }

pub shows_move : (g : Grammar) → WellFormed g → (lent : Lent) (m : Coming) → IsAhead g m → (ts : List Leaf) (c d : Config) → Shows g ts c → next g lent m c ≡ moved d → Kept (Shows g) m ts c d
shows_move g f lent m ok ts c d s h = go v.reading
  where
    v : Moved g m s.part.node s.part.below c.tokens c.moves d
    v = moves_to g f lent m ok ts c d s h

    go : ((c.tokens ≡ d.tokens) × (yield_part s.part ≡ yield_part v.part)) ⊎ ((t : Leaf) × (m ≡ comes t) × (suc c.tokens ≡ d.tokens) × (yield_part s.part ++ (t ∷ []) ≡ yield_part v.part)) → Kept (Shows g) m ts c d
    go (inl r) = inl (shows_same g f lent m ok ts c d s v r.0 r.1, r.0)
    go (inr r) = inr (r.0, r.1, shows_read g f lent m ok ts c d s v r.0 r.2 r.3)

-- ---- feed and finish

pub shows_feed : (g : Grammar) → WellFormed g → (lent : Lent) (ts us : List Leaf) → T (all (is_leaf_of g) us) → (c e : Config) → Stopped (Shows g) ts c → feed_all g lent us c ≡ stopped e → Stopped (Shows g) (ts ++ us) e
shows_feed g f lent ts us t c e s h = keep_feed g lent (Shows g) (λ vs d a. a.tokens) (shows_move g f lent) ts us t c e s h

pub shows_finish : (g : Grammar) → WellFormed g → (lent : Lent) (ts : List Leaf) (c e : Config) → Stopped (Shows g) ts c → finish_all g lent c ≡ stopped e → Shows g ts e × T (is_finished e)
shows_finish g f lent ts c e s h = keep_finish g lent (Shows g) (λ vs d a. a.tokens) (shows_move g f lent) ts c e s h
