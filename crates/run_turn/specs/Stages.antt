-- The stages of a turn: what each leads to, perhaps to nothing, and what all lead to one after the other.
use Rattle.std.specs.Prelude.{ℕ, ◌+◌, ◌-◌, ◌≤◌, ◌<◌, ◌≡◌, List, [], ◌∷◌, length, get_or, ℤ, Result, Ok, Err}
use Rattle.std.proofs.Common.{arith, sym, ap, ◌∙◌, subst, subst₂}
use Rattle.meaning.specs.Sets.{end_number}
use Rattle.meaning.specs.Grammar.{Grammar}
use Rattle.meaning.specs.Machine.{Config, Lent, Settled}
use Rattle.meaning.specs.Program.{add_operation, evaluate_operation, read_operation}
use Rattle.theory_program.specs.Parts.{head_operation}
use Rattle.run_looking.specs.Judging.{judged_of, judged_taken}
use Rattle.run_moves.specs.declared.Run.{Run}
use Rattle.run_moves.specs.declared.Halt.{Halt}
use Rattle.run_moves.specs.Held.{Held, Step, Stage, halting}
use Rattle.run_next_token.specs.Operations.{Running}
use Rattle.run_next_token.specs.Turns.{SettlesBy, Left, Turned}
use Rattle.run_next_token.specs.Reading.{Reaches, reaches_none, turned_reaches, turned_after, turned_then}
use Rattle.run_turn.specs.declared.Over.{Over}

-- ---- what a stage leads to

-- what a turn leads to: the run after its moves, or the run at which they end, and why
abbrev pub Onward : Type 0
Onward = Result Run Over

-- moves, or none, where the stage is idle
pub data Went (idle : Run → Type 0) (bound most : ℕ) (ws us : List ℕ) (vs : List ℤ) (i : ℕ) (m : List ℤ) (ps : List ℕ) (run : Run) (m' : List ℤ) (ps' : List ℕ) (run' : Run) : Type 0 where
  some : Turned bound most ws us vs i m ps run m' ps' (Ok run') → Went idle bound most ws us vs i m ps run m' ps' run'
  none : run' ≡ run → m' ≡ m → ps' ≡ ps → idle run → Went idle bound most ws us vs i m ps run m' ps' run'

abbrev pub StageLeads : (Run → Type 0) → ℕ → ℕ → List ℕ → List ℕ → List ℤ → ℕ → List ℤ → List ℕ → Run → List ℤ → List ℕ → Stage → Type 0
StageLeads idle bound most ws us vs i m ps run m' ps' (Ok run') = Went idle bound most ws us vs i m ps run m' ps' run'
StageLeads idle bound most ws us vs i m ps run m' ps' (Err k) = Turned bound most ws us vs i m ps run m' ps' (Err k)

-- the moves end at a run, by a halt
abbrev pub Ends : ℕ → ℕ → List ℕ → List ℕ → List ℤ → ℕ → List ℤ → List ℕ → Run → List ℤ → List ℕ → Run → Halt → Type 0
Ends bound most ws us vs i m ps run m' ps' run' k = (g : Grammar) (lent : Lent) (d : Config) (o : Settled) → Held g ws lent m ps run d → Left bound most us vs g lent i d o → SettlesBy g ws lent o m' ps' run' k

-- several stages
abbrev pub Ran : (Run → Type 0) → ℕ → ℕ → List ℕ → List ℕ → List ℤ → ℕ → List ℤ → List ℕ → Run → List ℤ → List ℕ → Onward → Type 0
Ran idle bound most ws us vs i m ps run m' ps' (Ok run') = Went idle bound most ws us vs i m ps run m' ps' run'
Ran idle bound most ws us vs i m ps run m' ps' (Err over) = Ends bound most ws us vs i m ps run m' ps' over.run over.halt

-- a whole turn makes at least one move
abbrev pub TurnsOn : ℕ → ℕ → List ℕ → List ℕ → List ℤ → ℕ → List ℤ → List ℕ → Run → List ℤ → List ℕ → Onward → Type 0
TurnsOn bound most ws us vs i m ps run m' ps' (Ok run') = Turned bound most ws us vs i m ps run m' ps' (Ok run')
TurnsOn bound most ws us vs i m ps run m' ps' (Err over) = Ends bound most ws us vs i m ps run m' ps' over.run over.halt

-- ---- where a stage is idle

-- the operation at hand has another number
abbrev pub Other : List ℕ → ℕ → Run → Type 0
Other ws k run = head_operation (get_or ws run.at 0) ≡ k → ⊥

-- it is an add or an evaluate
abbrev pub AddOrEvaluate : List ℕ → Run → Type 0
AddOrEvaluate ws run = head_operation (get_or ws run.at 0) < read_operation

-- the move of number k, which looks at nothing, where it is at hand
abbrev pub MadeAtHand : List ℕ → List ℤ → Run → ℕ → List ℤ → Step → Type 0
MadeAtHand ws m run k m' s = (bound most : ℕ) (us : List ℕ) (vs : List ℤ) (i : ℕ) (ps : List ℕ) → length us ≡ length vs → StageLeads (Other ws k) bound most ws us vs i m ps run m' ps (halting s)

-- the add and the evaluate
abbrev pub BothAtHand : List ℕ → List ℤ → Run → List ℤ → Onward → Type 0
BothAtHand ws m run m' t = (bound most : ℕ) (us : List ℕ) (vs : List ℤ) (i : ℕ) (ps : List ℕ) → length us ≡ length vs → Ran (λ r. Other ws add_operation r × Other ws evaluate_operation r) bound most ws us vs i m ps run m' ps t

-- ---- one stage after the other

pub stage_turned : (idle : Run → Type 0) (bound most : ℕ) (ws us : List ℕ) (vs : List ℤ) (i : ℕ) (m : List ℤ) (ps : List ℕ) (run : Run) (m' : List ℤ) (ps' : List ℕ) (s : Stage) → Turned bound most ws us vs i m ps run m' ps' s → StageLeads idle bound most ws us vs i m ps run m' ps' s
stage_turned idle bound most ws us vs i m ps run m' ps' (Ok run') t = some t
stage_turned idle bound most ws us vs i m ps run m' ps' (Err k) t = t

module _ {idle : Run → Type 0} {bound most : ℕ} {ws us : List ℕ} {vs : List ℤ} {i : ℕ} {m : List ℤ} {ps : List ℕ} {run : Run} {m' : List ℤ} {ps' : List ℕ} {run' : Run} where
  went_reaches : Went idle bound most ws us vs i m ps run m' ps' run' → Reaches bound most ws us vs i m ps run m' ps' run'
  went_reaches (some t) = turned_reaches t
  went_reaches (none e x y p) = subst (λ r. Reaches bound most ws us vs i m ps run m' ps' r) (sym e) (subst₂ (λ a b. Reaches bound most ws us vs i m ps run a b run) (sym x) (sym y) reaches_none)

  -- where the token at hand is taken: what is counted, and that a configuration is held
  pub went_after : Ok tt ≡ judged_of bound most us i run.tokens → Running ws m ps run → Went idle bound most ws us vs i m ps run m' ps' run' → (run.tokens ≤ run'.tokens) × Running ws m' ps' run'
  went_after j r (some t) = let k = turned_after j r t in (k.1, k.2)
  went_after j r (none e x y p) = (omega (arith, ap (λ z. z.tokens) e), subst (Running ws m' ps') (sym e) (subst₂ (λ a b. Running ws a b run) (sym x) (sym y) r))

-- a token that is taken whatever was read
pub any_taken : (n : ℕ) → Ok tt ≡ judged_of 64 n (end_number ∷ []) 0 n
any_taken n = judged_taken 64 n (end_number ∷ []) 0 n (omega arith) (omega arith) (omega arith)

module _ {I : Run → Type 0} {bound most : ℕ} {ws us : List ℕ} {vs : List ℤ} {i : ℕ} {m : List ℤ} {ps : List ℕ} {run : Run} {m' : List ℤ} {ps' : List ℕ} {run' : Run} (w : Went I bound most ws us vs i m ps run m' ps' run') {j : ℕ} (e : j ≡ i + (run'.tokens - run.tokens)) where
  pub went_went : {J : Run → Type 0} {m'' : List ℤ} {ps'' : List ℕ} {run'' : Run} → Went J bound most ws us vs j m' ps' run' m'' ps'' run'' → Went (λ r. I r × J r) bound most ws us vs i m ps run m'' ps'' run''
  went_went {J} {m''} {ps''} {run''} v = go w v
    where
      -- from where no move was made
      as_before : run' ≡ run → m' ≡ m → ps' ≡ ps → Turned bound most ws us vs j m' ps' run' m'' ps'' (Ok run'') → Turned bound most ws us vs i m ps run m'' ps'' (Ok run'')
      as_before z x y t =
          let same : j ≡ i = omega (arith, e, ap (λ r. r.tokens) z) in
          subst (λ r. Turned bound most ws us vs i m ps r m'' ps'' (Ok run'')) z (subst₂ (λ a b. Turned bound most ws us vs i a b run' m'' ps'' (Ok run'')) x y (subst (λ k. Turned bound most ws us vs k m' ps' run' m'' ps'' (Ok run'')) same t))

      go : Went I bound most ws us vs i m ps run m' ps' run' → Went J bound most ws us vs j m' ps' run' m'' ps'' run'' → Went (λ r. I r × J r) bound most ws us vs i m ps run m'' ps'' run''
      go (some t) v = some (turned_then e (went_reaches v) t)
      go (none z x y p) (some t) = some (as_before z x y t)
      go (none z x y p) (none z' x' y' q) = none (z' ∙ z) (x' ∙ x) (y' ∙ y) (p, subst J z q)

  pub went_ends : (m'' : List ℤ) (ps'' : List ℕ) (k : Halt) → Turned bound most ws us vs j m' ps' run' m'' ps'' (Err k) → Ends bound most ws us vs i m ps run m'' ps'' run' k
  went_ends m'' ps'' k t g lent d o h left =
      let s = went_reaches w g lent d o h left in
      t g lent s.0 o s.1 (subst (λ n. Left bound most us vs g lent n s.0 o) (sym e) s.4)

-- some stage makes a move
pub went_turns : {bound most : ℕ} {ws us : List ℕ} {vs : List ℤ} {i : ℕ} {m : List ℤ} {ps : List ℕ} {run : Run} {m' : List ℤ} {ps' : List ℕ} {run' : Run}
    → Went (λ r. (Other ws add_operation r × Other ws evaluate_operation r) × AddOrEvaluate ws r) bound most ws us vs i m ps run m' ps' run' → Turned bound most ws us vs i m ps run m' ps' (Ok run')
went_turns (some t) = t
went_turns {ws = ws} {run = run} (none z x y p) = absurd (below (head_operation (get_or ws run.at 0)) p.0.0 p.0.1 p.1)
  where
    below : (k : ℕ) → (k ≡ add_operation → ⊥) → (k ≡ evaluate_operation → ⊥) → k < read_operation → ⊥
    below k p q l = omega (arith, p, q, l)
