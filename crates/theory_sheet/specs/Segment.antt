-- A segment from its opening to its end: the stack run's answer is that of its moves, and where the start symbol is left the children of the whole segment are its tree.
use Rattle.std.specs.Prelude.{ℕ, ◌≤◌, ◌≡◌, refl, Bool, true, false, List, [], ◌++◌, length, drop, T, ltb, ℤ}
use Rattle.std.proofs.Common.{arith, sym, ap, ◌∙◌, subst, append-nil, nltb→le}
use Rattle.meaning.specs.Base.{all}
use Rattle.meaning.specs.Grammar.{Grammar, Leaf, nonterminal, whole, leaves}
use Rattle.meaning.specs.Rules.{WellFormed, four_bytes}
use Rattle.meaning.specs.Machine.{Config, Lent, Settled, stopped, failed, opening, feed_all, finish_all, is_finished}
use Rattle.meaning.specs.Tree.{Tree, Forest, no_trees, tree_and, TreeOf}
use Rattle.meaning.specs.Part.{Open, valued, forest_onto, yields_of}
use Rattle.meaning.specs.Calls.{Stacks, Called, Answer, more, value, refused, lent_of, lay_all, record_of, closed_record, as_brought, feed_of, finish_of, after_feed, after_finish_value, tokens_from, result}
use Rattle.meaning_sheet.specs.Sheet.{sheet, sheets, sheet_of}
use Rattle.meaning_sheet.specs.SheetCalls.{unless_refused, stack_run_value}
use Rattle.theory_base.specs.Feeds.{even_feed, leaves_of}
use Rattle.theory_answers.specs.Memory.{lay_over}
use Rattle.theory_sound.specs.MovesKeepPart.{node_of}
use Rattle.theory_sound.specs.RunsShowPart.{empty_good, empty_registers}
use Rattle.theory_sound.specs.Sound.{finished_done}
use Rattle.theory_sound.specs.KeptByCalls.{Stopped}
use Rattle.theory_sound.specs.CallSound.{SoundSoFar, feed_is, finish_is, opening_sound, sound_feed}
use Rattle.theory_sheet.specs.Whole.{and_then, run_from, run_whole}
use Rattle.theory_sheet.specs.NodeInProgress.{Stand, with_children, onto, onto_forest, shows}

-- ---- the answer

abbrev pub answer_of : Grammar → Settled → Answer
answer_of g (stopped c) = value (result g c) c.moves
answer_of g (failed c k) = refused k c.tokens

-- 01: "At opening 31 precedes 32"
abbrev pub opened_as : Bool → Bool → Answer → Answer
opened_as true b a = refused 31 0
opened_as false true a = refused 32 0
opened_as false false a = a

abbrev pub segment_run : Grammar → Lent → List Leaf → Answer
segment_run g lent us = opened_as (ltb lent.max_registers (length (opening g).registers)) (ltb lent.max_places 1) (answer_of g (run_from g lent us (opening g)))

module _ (g : Grammar) (f : WellFormed g) (m : Stacks) (ks : List ℕ) (vs : List ℤ) (even : length ks ≡ length vs) (four : T (all four_bytes vs)) where
  abbrev us : List Leaf
  us = leaves g (tokens_from ks vs)

  -- what follows an opening
  abbrev after : Called → Answer
  after o = let z = feed_of g o.state o.stacks ks vs in unless_refused o.answer (unless_refused z.answer (finish_of g z.state z.stacks).answer)

  module _ (r : length (opening g).registers ≤ (lent_of m).max_registers) (p : 1 ≤ (lent_of m).max_places) where
    s : Stopped (SoundSoFar g (lent_of m)) [] (opening g)
    s = opening_sound g f m r p

    abbrev finishes : Called → Answer
    finishes z = unless_refused z.answer (finish_of g z.state z.stacks).answer

    ends_by : (k : Settled) → feed_all g (lent_of m) us (opening g) ≡ k → finishes (after_feed g (lay_all g (opening g) m) k) ≡ answer_of g (and_then k (finish_all g (lent_of m)))
    ends_by (failed e k) q = refl
    ends_by (stopped e) q =
        let t = sound_feed g f (lent_of m) [] us (leaves_of g ks vs four) (opening g) e s q in
        let laid : lay_all g e (lay_all g (opening g) m) ≡ lay_all g e m = lay_over g (opening g) e m s.0.within in
        ap (λ x. (finish_of g (record_of true e) x).answer) laid ∙ (ap (λ z. z.answer) (finish_is g f m us e t) ∙ by (finish_all g (lent_of m) e))
      where
        by : (k : Settled) → (after_finish_value g (lay_all g e m) k).answer ≡ answer_of g k
        by (stopped x) = refl
        by (failed x k) = refl

    opened_run : after (record { answer = more 0; state = record_of true (opening g); stacks = lay_all g (opening g) m }) ≡ answer_of g (run_from g (lent_of m) us (opening g))
    opened_run =
        ap finishes (even_feed g (record_of true (opening g)) (lay_all g (opening g) m) ks vs even ∙ feed_is g f m [] (opening g) s us)
        ∙ (ends_by (feed_all g (lent_of m) us (opening g)) refl
        ∙ ap (answer_of g) (sym (run_whole g (lent_of m) us (opening g) tt (omega arith))))

  -- the stack run is the run of the whole segment
  pub stack_run : stack_run_value g m ks vs ≡ segment_run g (lent_of m) us
  stack_run = by (ltb (lent_of m).max_registers (length (opening g).registers)) refl (ltb (lent_of m).max_places 1) refl
    where
      by : (a : Bool) → ltb (lent_of m).max_registers (length (opening g).registers) ≡ a → (b : Bool) → ltb (lent_of m).max_places 1 ≡ b
          → after (elim a as (λ z. Called) [ true ↦ as_brought (refused 31 0) closed_record m | false ↦ elim b as (λ z. Called) [ true ↦ as_brought (refused 32 0) closed_record m | false ↦ record { answer = more 0; state = record_of true (opening g); stacks = lay_all g (opening g) m } ] ])
          ≡ opened_as a b (answer_of g (run_from g (lent_of m) us (opening g)))
      by true x b y = refl
      by false x true y = refl
      by false x false y = opened_run (nltb→le (lent_of m).max_registers (length (opening g).registers) (rw x tt)) (nltb→le (lent_of m).max_places 1 (rw y tt))

-- ---- the whole segment

abbrev pub segment_node : Open
segment_node = node_of whole [] []

pub opening_stands : (g : Grammar) → WellFormed g → (tokens : List Leaf) → Stand g tokens segment_node [] (opening g)
opening_stands g f tokens = record { point = valued (nonterminal g.start) [] []; good = empty_good g f; frames = refl; registers = empty_registers g f; moves = omega arith; count = refl; split = refl }

-- where the start symbol is left and no token is left, the only child is the segment's tree
pub whole_tree : (g : Grammar) → WellFormed g → (tokens : List Leaf) (c : Config) (h : Forest) → Stand g tokens (with_children segment_node h) [] c → drop c.tokens tokens ≡ [] → T (is_finished c) → (t : Tree) × TreeOf g tokens t × (sheets 0 h ≡ sheet_of t)
unfolding shows
whole_tree g f tokens c h s none t =
    let d = finished_done g f (yields_of (onto h [])) c (shows s) t in
    let one : h ≡ tree_and d.tree no_trees = sym (onto_forest h []) ∙ ap (λ ts. forest_onto ts no_trees) d.only in
    let all_read : yields_of (onto h []) ≡ tokens = sym (append-nil (yields_of (onto h []))) ∙ (ap (λ z. yields_of (onto h []) ++ z) (sym none) ∙ sym s.split) in
    (d.tree, subst (λ us. TreeOf g us d.tree) all_read d.is_tree, ap (sheets 0) one ∙ append-nil (sheet 0 d.tree))
