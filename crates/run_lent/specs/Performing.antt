-- A feed and a finish, from the judgement of 33 and 34 to what is left.
use Rattle.std.specs.Prelude.{ℕ, ◌≤◌, ◌≡◌, List, length, get_or, ℤ}
use Rattle.std.proofs.Common.{sym, ap, ◌∙◌}
use Rattle.meaning.specs.Limits.{registers_limit, places_limit}
use Rattle.meaning.specs.Grammar.{Grammar, leaves}
use Rattle.meaning.specs.Rules.{WellFormed}
use Rattle.meaning.specs.Fit.{Fit}
use Rattle.meaning.specs.Machine.{feed_all, finish_all}
use Rattle.meaning.specs.Calls.{Record, Stacks, lent_of, config_of, after_feed, after_finish_value, tokens_from, as_brought, refused, feed_of, finish_of}
use Rattle.theory_base.specs.Feeds.{even_feed, uneven_feed}
use Rattle.theory_program.specs.Addresses.{Begins}
use Rattle.run_moves.specs.declared.Run.{Run}
use Rattle.run_moves.specs.Held.{Held}
use Rattle.run_machine.specs.Advancing.{Ended, Running, Settles}
use Rattle.run_machine.specs.Feeding.{Feeds, Finishes}
use Rattle.meaning.specs.PublicCalls.{stacks_of, Call, feed, finish, call_of}
use Rattle.run_fit.specs.HasProgram.{HasProgram, Readable}
use Rattle.records.specs.declared.Handed.{Handed}
use Rattle.records.specs.Records.{handed_is}
use Rattle.run_states.specs.Starting.{Fitting}
use Rattle.run_states.specs.Leaving.{fed_from, finished_from, feed_leaves_lem, finish_leaves, Ending, ended_by}
use Rattle.run_lent.specs.declared.Call as Code
use Rattle.run_lent.specs.declared.Call.TheVariants.{Feed, Finish}
use Rattle.run_lent.specs.Judging.{number_for, when_turned, when_not, not_turned}

-- the call that the code makes; kinds and values are a feed's
abbrev pub call_is : Code.Call → List ℕ → List ℤ → Call
call_is Feed ks us = feed ks us
call_is Finish ks us = finish

-- the run that the code starts with holds what the record and the stacks say
abbrev pub Starts : List ℕ → List ℕ → Record → Run → Type 0
Starts ws ps r run = (g : Grammar) (vs : List ℤ) → Begins g ws → WellFormed g → length vs ≤ registers_limit → length ps ≤ places_limit → Fit g r (stacks_of vs ps) → Held g ws (lent_of (stacks_of vs ps)) vs ps run (config_of g r (stacks_of vs ps))

-- 33, 40 or 34: nothing is done
pub call_turned : (g : Grammar) (r : Record) (m : Stacks) (n : ℕ) → n ≡ number_for 34 g r m → (n ≡ 0 → ⊥) → (c : Call) → as_brought (refused n 0) r m ≡ call_of g r m c
call_turned g r m n e z (feed ks us) = sym (when_turned g r m _ n e z)
call_turned g r m n e z finish = sym (when_turned g r m _ n e z)

-- what the code has judged is 01's judgement
pub record Judged (ws : List ℕ) (vs : List ℤ) (ps : List ℕ) (r : Record) : Type 0 where
  pub few : length vs ≤ registers_limit
  pub little : length ps ≤ places_limit
  pub brought : Readable ws
  pub passed : (g : Grammar) → HasProgram g ws → 0 ≡ number_for 34 g r (stacks_of vs ps)

module _ {ws : List ℕ} {vs : List ℤ} {ps : List ℕ} {r : Record} (j : Judged ws vs ps r) where
  fit_of : (g : Grammar) → HasProgram g ws → Fit g r (stacks_of vs ps)
  fit_of g s = not_turned g r (stacks_of vs ps) (sym (j.passed g s))

  pub judged_fitting : Fitting ws vs ps r
  judged_fitting = let b = j.brought in record { grammar = b.grammar; begins = b.shown.begins; well_formed = b.shown.formed; fits = fit_of b.grammar b.shown }

  -- 38: nothing is done
  pub feed_uneven : (ks : List ℕ) (us : List ℤ) → (length ks ≡ length us → ⊥) → (g : Grammar) → HasProgram g ws → as_brought (refused 38 0) r (stacks_of vs ps) ≡ feed_of g r (stacks_of vs ps) ks us
  feed_uneven ks us odd g s = let m : Stacks = stacks_of vs ps in sym (uneven_feed g r m ks us odd ∙ when_not g r m (as_brought (refused 38 0) r m) (sym (j.passed g s)))

  module _ (run : Run) (f : Starts ws ps r run) where
    held_of : (g : Grammar) → HasProgram g ws → Held g ws (lent_of (stacks_of vs ps)) vs ps run (config_of g r (stacks_of vs ps))
    held_of g s = f g vs s.begins s.formed j.few j.little (fit_of g s)

    pub judged_running : Running ws vs ps run
    judged_running = let b = j.brought in record { grammar = b.grammar; lent = lent_of (stacks_of vs ps); config = config_of b.grammar r (stacks_of vs ps); held = held_of b.grammar b.shown }

    pub feed_made : (ks : List ℕ) (us : List ℤ) → length ks ≡ length us → (vs' : List ℤ) (ps' : List ℕ) (e : Ended) (k : Handed) → Feeds ws ks us vs ps run vs' ps' e → k ≡ fed_from e
        → (g : Grammar) → HasProgram g ws → handed_is k vs' ps' ≡ feed_of g r (stacks_of vs ps) ks us
    feed_made ks us even vs' ps' e k a q g s =
        let m : Stacks = stacks_of vs ps in
        let o = feed_all g (lent_of m) (leaves g (tokens_from ks us)) (config_of g r m) in
        ap (λ z. handed_is z vs' ps') q
        ∙ (feed_leaves_lem g ws vs ps j.few j.little vs' ps' e o (a g (lent_of m) (config_of g r m) (held_of g s))
        ∙ (sym (when_not g r m (after_feed g m o) (sym (j.passed g s))) ∙ sym (even_feed g r m ks us even)))

    module _ (vs' : List ℤ) (ps' : List ℕ) (e : Ended) (a : Finishes ws vs ps run vs' ps' e) where
      settled : (g : Grammar) → HasProgram g ws → Settles g ws (lent_of (stacks_of vs ps)) (finish_all g (lent_of (stacks_of vs ps)) (config_of g r (stacks_of vs ps))) vs' ps' e
      settled g s = a g (lent_of (stacks_of vs ps)) (config_of g r (stacks_of vs ps)) (held_of g s)

      pub finish_ending : Ending ws vs' e
      finish_ending = let b = j.brought in ended_by b.grammar ws vs ps j.few j.little (config_of b.grammar r (stacks_of vs ps)) (held_of b.grammar b.shown).few_moves b.shown.begins vs' ps' e (settled b.grammar b.shown)

      pub finish_made : (k : Handed) → k ≡ finished_from (get_or ws 5 0) vs' e → (g : Grammar) → HasProgram g ws → handed_is k vs' ps' ≡ finish_of g r (stacks_of vs ps)
      finish_made k q g s =
          let m : Stacks = stacks_of vs ps in
          ap (λ z. handed_is z vs' ps') q
          ∙ (finish_leaves g ws vs ps j.few j.little (config_of g r m) (held_of g s).few_moves vs' ps' e (settled g s)
          ∙ sym (when_not g r m (after_finish_value g m (finish_all g (lent_of m) (config_of g r m))) (sym (j.passed g s))))
