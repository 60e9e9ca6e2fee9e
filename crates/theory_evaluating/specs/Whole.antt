-- A candidate's opening, feed and finish are one run from the opening configuration.
use Rattle.std.specs.Prelude.{ℕ, ◌≤◌, ◌<◌, ◌≡◌, refl, Bool, true, false, List, [], length, T, ltb, ℤ}
use Rattle.std.proofs.Common.{arith, ap, ap₂, ◌∙◌, subst, lt-ltb, le-ltb}
use Rattle.meaning.specs.Base.{all}
use Rattle.meaning.specs.Grammar.{Grammar, Leaf, leaves}
use Rattle.meaning.specs.Rules.{four_bytes, WellFormed}
use Rattle.meaning.specs.Machine.{Config, Settled, stopped, failed, ends, opening, feed_all, finish_all}
use Rattle.meaning.specs.Calls as Calls
use Rattle.meaning.specs.Calls.{Stacks, Called, lent_of, lay_all, record_of, closed_record, as_brought, refused, more, result, config_of, tokens_from, after_feed, after_finish_value, open_of, finish_of}
use Rattle.meaning_ranking.specs.RankCall.{fed_on, finished_on, evaluated}
use Rattle.theory_base.specs.Feeds.{even_feed, leaves_of}
use Rattle.meaning.specs.Walk.{nothing}
use Rattle.theory_answers.specs.Memory.{Within, lent_kept, lay_over, read_back, laid_fits}
use Rattle.meaning.specs.Tree.{is_leaf_of}
use Rattle.meaning.specs.Value.{in_range}
use Rattle.theory_answers.specs.Bounds.{Blocks, within_move}
use Rattle.theory_answers.specs.ShapeMemory.{at_stop, result_ranged}
use Rattle.theory_answers.specs.ShapeMoves.{ShapedAt}
use Rattle.theory_answers.specs.Answers.{when_met}
use Rattle.theory_answers.specs.Runs.{makes_keep, with_nothing, with_end, Fed, FeedBlocks, fed, Finished, finished}
use Rattle.theory_sound.specs.KeptByCalls.{Stopped}
use Rattle.theory_sound.specs.CallSound.{SoundSoFar, sound_feed, sound_finish, opening_sound, feed_is}

-- what a finish after all tokens, or the refusal of one, leaves
abbrev pub wholly : Grammar → Stacks → Settled → Called
wholly g m (stopped c) = after_finish_value g m (finish_all g (lent_of m) c)
wholly g m (failed c k) = after_feed g m (failed c k)

-- laid over what another configuration left
module _ (g : Grammar) (c : Config) (m : Stacks) (w : Within (lent_of m) c) where
  pub finish_over : (o : Settled) → after_finish_value g (lay_all g c m) o ≡ after_finish_value g m o
  finish_over (stopped d) = ap (λ z. as_brought (Calls.value (result g d) d.moves) (record_of false d) z) (lay_over g c d m w)
  finish_over (failed d k) = ap (λ z. as_brought (refused k d.tokens) (record_of false d) z) (lay_over g c d m w)

  pub wholly_over : (o : Settled) → wholly g (lay_all g c m) o ≡ wholly g m o
  wholly_over (stopped d) = ap (λ l. after_finish_value g (lay_all g c m) (finish_all g l d)) (lent_kept g c m w) ∙ finish_over (finish_all g (lent_of m) d)
  wholly_over (failed d k) = ap (λ z. as_brought (refused k d.tokens) (record_of false d) z) (lay_over g c d m w)

module _ (g : Grammar) (m : Stacks) where
  abbrev opened : Called
  opened = record { answer = more 0; state = record_of true (opening g); stacks = lay_all g (opening g) m }

  -- by the tests of 31 and 32
  abbrev open_by : Bool → Bool → Called
  open_by a b = elim a [ true ↦ as_brought (refused 31 0) closed_record m | false ↦ elim b [ true ↦ as_brought (refused 32 0) closed_record m | false ↦ opened ] ]

  abbrev flat : Bool
  flat = ltb (lent_of m).max_places 1

  pub opened_31 : (lent_of m).max_registers < length (opening g).registers → open_of g m ≡ as_brought (refused 31 0) closed_record m
  opened_31 l = ap (λ b. open_by b flat) (lt-ltb (lent_of m).max_registers (length (opening g).registers) l)

  pub opened_32 : length (opening g).registers ≤ (lent_of m).max_registers → (lent_of m).max_places < 1 → open_of g m ≡ as_brought (refused 32 0) closed_record m
  opened_32 r l = ap (λ b. open_by b flat) (le-ltb (lent_of m).max_registers (length (opening g).registers) r) ∙ ap (open_by false) (lt-ltb (lent_of m).max_places 1 l)

  module _ (ks : List ℕ) (vs : List ℤ) where
    pub evaluated_31 : (lent_of m).max_registers < length (opening g).registers → evaluated g m ks vs ≡ as_brought (refused 31 0) closed_record m
    evaluated_31 l = ap (λ b. finished_on g (fed_on g ks vs (open_by b flat))) (lt-ltb (lent_of m).max_registers (length (opening g).registers) l)

    pub evaluated_32 : length (opening g).registers ≤ (lent_of m).max_registers → (lent_of m).max_places < 1 → evaluated g m ks vs ≡ as_brought (refused 32 0) closed_record m
    evaluated_32 r l =
        ap (λ b. finished_on g (fed_on g ks vs (open_by b flat))) (le-ltb (lent_of m).max_registers (length (opening g).registers) r)
        ∙ ap (λ b. finished_on g (fed_on g ks vs (open_by false b))) (lt-ltb (lent_of m).max_places 1 l)

  module _ (f : WellFormed g) (r : length (opening g).registers ≤ (lent_of m).max_registers) (p : 1 ≤ (lent_of m).max_places) where
    start : Stopped (SoundSoFar g (lent_of m)) [] (opening g)
    start = opening_sound g f m r p

    pub is_open : open_of g m ≡ opened
    is_open = ap (λ b. open_by b flat) (le-ltb (lent_of m).max_registers (length (opening g).registers) r) ∙ ap (open_by false) (le-ltb (lent_of m).max_places 1 p)

    within_opening : Within (lent_of m) (opening g)
    within_opening = start.0.within

    -- the feed of a candidate
    fed_as : (ks : List ℕ) (vs : List ℤ) → length ks ≡ length vs → evaluated g m ks vs ≡ finished_on g (after_feed g (lay_all g (opening g) m) (feed_all g (lent_of m) (leaves g (tokens_from ks vs)) (opening g)))
    fed_as ks vs even =
        let us = leaves g (tokens_from ks vs) in
        ap (λ c. finished_on g (fed_on g ks vs c)) is_open
        ∙ ap (finished_on g) (even_feed g (record_of true (opening g)) (lay_all g (opening g) m) ks vs even ∙ feed_is g f m [] (opening g) start us)

    -- what the tokens lead to
    led : (us : List Leaf) (c : Config) → feed_all g (lent_of m) us (opening g) ≡ stopped c → Fed g (lent_of m) (opening g) us (stopped c)
    led us c q = subst (Fed g (lent_of m) (opening g) us) q (fed g (lent_of m) (opening g) us [] (opening g) (record { moves = []; made = λ vs b. nothing; few = omega arith }) tt (omega arith))

    pub stopped_within : (us : List Leaf) (c : Config) → feed_all g (lent_of m) us (opening g) ≡ stopped c → Within (lent_of m) c
    stopped_within us c q =
        let l = with_nothing g (lent_of m) us (opening g) [] c (with_end g (lent_of m) us (opening g) [] c (led us c q).0) in
        makes_keep g (lent_of m) (Within (lent_of m)) (λ k a b s h. within_move g (lent_of m) k a b s h) l.made within_opening

    -- what a candidate comes to, keeping within the lent stacks
    fed_at : (us : List Leaf) → Fed g (lent_of m) (opening g) us (feed_all g (lent_of m) us (opening g))
    fed_at us = fed g (lent_of m) (opening g) us [] (opening g) (record { moves = []; made = λ vs b. nothing; few = omega arith }) tt (omega arith)

    pub failed_at : (us : List Leaf) (c : Config) (k : ℕ) → feed_all g (lent_of m) us (opening g) ≡ failed c k → Within (lent_of m) c × FeedBlocks c k
    failed_at us c k q =
        let z = subst (Fed g (lent_of m) (opening g) us) q (fed_at us) in
        let l = with_nothing g (lent_of m) us (opening g) z.0 c (with_end g (lent_of m) us (opening g) z.0 c z.1) in
        (makes_keep g (lent_of m) (Within (lent_of m)) (λ k a b s h. within_move g (lent_of m) k a b s h) l.made within_opening, z.3)

    module _ (us : List Leaf) (c : Config) (q : feed_all g (lent_of m) us (opening g) ≡ stopped c) where
      finish_at : Finished g (lent_of m) (opening g) us c.tokens (finish_all g (lent_of m) c)
      finish_at = finished g (lent_of m) (opening g) us c (led us c q).0

      pub ended_at : (d : Config) → finish_all g (lent_of m) c ≡ stopped d → Within (lent_of m) d
      ended_at d e =
          let z = subst (Finished g (lent_of m) (opening g) us c.tokens) e finish_at in
          makes_keep g (lent_of m) (Within (lent_of m)) (λ k a b s h. within_move g (lent_of m) k a b s h) (with_nothing g (lent_of m) us (opening g) [] d z.0).made within_opening

      pub refused_at : (d : Config) (k : ℕ) → finish_all g (lent_of m) c ≡ failed d k → Within (lent_of m) d × Blocks ends d k
      refused_at d k e =
          let z = subst (Finished g (lent_of m) (opening g) us c.tokens) e finish_at in
          (makes_keep g (lent_of m) (Within (lent_of m)) (λ k a b s h. within_move g (lent_of m) k a b s h) (with_nothing g (lent_of m) us (opening g) [] d z.0).made within_opening, z.1)

      pub value_at : T (all (is_leaf_of g) us) → (d : Config) → finish_all g (lent_of m) c ≡ stopped d → T (in_range (result g d))
      value_at t d e =
          let h = sound_finish g f (lent_of m) us c d (sound_feed g f (lent_of m) [] us t (opening g) c start q) e in
          result_ranged g f d h.0.shaped h.1

    module _ (ks : List ℕ) (vs : List ℤ) (even : length ks ≡ length vs) where
      -- a token is refused
      pub evaluated_failed : (c : Config) (k : ℕ) → feed_all g (lent_of m) (leaves g (tokens_from ks vs)) (opening g) ≡ failed c k → evaluated g m ks vs ≡ after_feed g m (failed c k)
      evaluated_failed c k q =
          fed_as ks vs even
          ∙ (ap (λ o. finished_on g (after_feed g (lay_all g (opening g) m) o)) q
          ∙ ap (λ z. as_brought (refused k c.tokens) (record_of false c) z) (lay_over g (opening g) c m within_opening))

      -- all are read: the finish meets what the feed left
      pub evaluated_stopped : (c : Config) → feed_all g (lent_of m) (leaves g (tokens_from ks vs)) (opening g) ≡ stopped c → ShapedAt g c → evaluated g m ks vs ≡ after_finish_value g m (finish_all g (lent_of m) c)
      evaluated_stopped c q shape =
          let w = stopped_within (leaves g (tokens_from ks vs)) c q in
          let l = led (leaves g (tokens_from ks vs)) c q in
          let stop = at_stop g f c.frames c.registers shape l.1 in
          fed_as ks vs even
          ∙ (ap (λ o. finished_on g (after_feed g (lay_all g (opening g) m) o)) q
          ∙ (ap (finish_of g (record_of true c)) (lay_over g (opening g) c m within_opening)
          ∙ (when_met g (record_of true c) (lay_all g c m) (after_finish_value g (lay_all g c m) (finish_all g (lent_of (lay_all g c m)) (config_of g (record_of true c) (lay_all g c m)))) refl (laid_fits g true c m stop w l.2)
          ∙ (ap₂ (λ n d. after_finish_value g (lay_all g c m) (finish_all g n d)) (lent_kept g c m w) (read_back g true c m stop w)
          ∙ finish_over g c m w (finish_all g (lent_of m) c)))))

      -- signed 32-bit values keep the shape
      pub evaluated_runs : T (all four_bytes vs) → evaluated g m ks vs ≡ wholly g m (feed_all g (lent_of m) (leaves g (tokens_from ks vs)) (opening g))
      evaluated_runs t = go (feed_all g (lent_of m) (leaves g (tokens_from ks vs)) (opening g)) refl
        where
          go : (o : Settled) → feed_all g (lent_of m) (leaves g (tokens_from ks vs)) (opening g) ≡ o → evaluated g m ks vs ≡ wholly g m o
          go (failed c k) q = evaluated_failed c k q
          go (stopped c) q = evaluated_stopped c q (sound_feed g f (lent_of m) [] (leaves g (tokens_from ks vs)) (leaves_of g ks vs t) (opening g) c start q).0.shaped
