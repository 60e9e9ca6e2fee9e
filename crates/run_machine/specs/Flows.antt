-- One loop over the moves for all that comes: what is left after each of its turns, and what ends it.
use Rattle.std.specs.Prelude.{ℕ, ◌+◌, ◌-◌, ◌≤◌, ◌<◌, ◌≡◌, refl, List, length, ℤ, Ok, Err}
use Rattle.std.proofs.Common.{arith, sym, ap, ◌∙◌, subst}
use Rattle.meaning.specs.Grammar.{Grammar}
use Rattle.meaning.specs.Calls.{tokens_from}
use Rattle.meaning.specs.Machine.{Config, Lent, Settled, moves_limit}
use Rattle.run_looking.specs.Judging.{judged_of}
use Rattle.run_moves.specs.declared.Run.{Run}
use Rattle.run_moves.specs.declared.Halt.{Halt}
use Rattle.run_moves.specs.declared.Halt.TheVariants.{Pause, Refused}
use Rattle.run_moves.specs.Held.{Held}
use Rattle.run_machine.specs.Advancing.{Ended, Settles}
use Rattle.run_machine.specs.Feeding.{TakesTokens}
use Rattle.run_next_token.specs.Operations.{Running}
use Rattle.run_next_token.specs.Coming.{take_looks}
use Rattle.run_next_token.specs.Turns.{SettlesBy, Left, ahead, refused, Turned}
use Rattle.run_turn.specs.Stages.{Ends}

-- a pause is a stop
abbrev pub ended_by : Run → Halt → Ended
ended_by run Pause = Ok run
ended_by run (Refused r) = Err (record { run = run; refusal = r })

settles_by : (g : Grammar) (ws : List ℕ) (lent : Lent) (o : Settled) (m : List ℤ) (ps : List ℕ) (run : Run) (k : Halt) → SettlesBy g ws lent o m ps run k → Settles g ws lent o m ps (ended_by run k)
settles_by g ws lent o m ps run Pause s = s
settles_by g ws lent o m ps run (Refused r) s = s

-- ---- the loop

-- from entry memory m₀ and ps₀ and run₀: the first i tokens are read, and the rest is left
pub record Flows (bound most : ℕ) (ws us : List ℕ) (vs m₀ : List ℤ) (ps₀ : List ℕ) (run₀ : Run) (i : ℕ) (m : List ℤ) (ps : List ℕ) (run : Run) : Type 0 where
  pub from : (g : Grammar) (lent : Lent) (c : Config) → Held g ws lent m₀ ps₀ run₀ c → (d : Config) × Held g ws lent m ps run d × Left bound most us vs g lent i d (take_looks bound most g lent (tokens_from us vs) c)

-- the first token is judged before any move
module _ (bound most : ℕ) (ws us : List ℕ) (vs m : List ℤ) (ps : List ℕ) (run : Run) where
  pub flows_start : Ok tt ≡ judged_of bound most us 0 run.tokens → (i : ℕ) → i ≡ 0 → Flows bound most ws us vs m ps run i m ps run
  flows_start j i z = subst (λ k. Flows bound most ws us vs m ps run k m ps run) (sym z) (record { from = λ g lent c h. (c, h, ahead (j ∙ ap (judged_of bound most us 0) h.tokens) refl) })

  pub not_begun : (k : Halt) → length us ≡ length vs → Err k ≡ judged_of bound most us 0 run.tokens → TakesTokens bound most ws us vs m ps run m ps (ended_by run k)
  not_begun k even e g lent c h = settles_by g ws lent (take_looks bound most g lent (tokens_from us vs) c) m ps run k (refused bound most us vs even g lent 0 c k h (e ∙ ap (judged_of bound most us 0) h.tokens))

module _ {bound most : ℕ} {ws us : List ℕ} {vs m₀ : List ℤ} {ps₀ : List ℕ} {run₀ : Run} {i : ℕ} {m : List ℤ} {ps : List ℕ} {run : Run} (k : Flows bound most ws us vs m₀ ps₀ run₀ i m ps run) where
  pub flows_held : Running ws m₀ ps₀ run₀ → Running ws m ps run
  flows_held r = let q = k.from r.grammar r.lent r.config r.held in record { grammar = r.grammar; lent = r.lent; config = q.0; held = q.1 }

  pub flows_counts : {m' : List ℤ} {ps' : List ℕ} {run' : Run} → Running ws m₀ ps₀ run₀ → Turned bound most ws us vs i m ps run m' ps' (Ok run') → (run.moves < run'.moves) × (run'.moves ≤ moves_limit) × (run.tokens ≤ run'.tokens)
  flows_counts {run' = run'} r a =
      let q = k.from r.grammar r.lent r.config r.held in
      let s = a r.grammar r.lent q.0 (take_looks bound most r.grammar r.lent (tokens_from us vs) r.config) q.1 q.2 in
      let t : run'.moves ≡ s.0.moves = s.1.moves in
      (s.2, omega (arith, s.1.few_moves), s.3)

  pub flows_on : {m' : List ℤ} {ps' : List ℕ} {run' : Run} (j : ℕ) → j ≡ i + (run'.tokens - run.tokens) → Turned bound most ws us vs i m ps run m' ps' (Ok run') → Flows bound most ws us vs m₀ ps₀ run₀ j m' ps' run'
  flows_on {m'} {ps'} {run'} j z a =
      record {
        from = λ g lent c h.
            let q = k.from g lent c h in
            let o = take_looks bound most g lent (tokens_from us vs) c in
            let s = a g lent q.0 o q.1 q.2 in
            (s.0, s.1, subst (λ x. Left bound most us vs g lent x s.0 o) (sym z) s.4);
      }

  pub flows_ended : (m' : List ℤ) (ps' : List ℕ) (run' : Run) (n : Halt) → Ends bound most ws us vs i m ps run m' ps' run' n → TakesTokens bound most ws us vs m₀ ps₀ run₀ m' ps' (ended_by run' n)
  flows_ended m' ps' run' n a g lent c h =
      let q = k.from g lent c h in
      let o = take_looks bound most g lent (tokens_from us vs) c in
      settles_by g ws lent o m' ps' run' n (a g lent q.0 o q.1 q.2)
