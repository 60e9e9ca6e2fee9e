-- The calls of 02 (g) by their judgement: 30, the table, 33, 40, 34, 39.
use Rattle.std.specs.Prelude.{ℕ, ◌≤◌, ◌<◌, ◌≡◌, refl, Bool, true, false, List, length, T, ℤ}
use Rattle.std.proofs.Common.{ap, ap₂, ◌∙◌, lt-ltb}
use Rattle.meaning.specs.Grammar.{Grammar}
use Rattle.meaning.specs.Table.{grammar_of}
use Rattle.meaning.specs.Judgement.{rejected, Accepted}
use Rattle.meaning.specs.Calls.{Gate, admitted, turned_back, gate, is_open, Record, Stacks, Called, Answer, refused, table_refused, as_brought, stacks_fit}
use Rattle.meaning.specs.Fit.{Fit}
use Rattle.meaning.specs.PublicCalls.{Checked, usable, unusable, check, area_length, written, effect, called}
use Rattle.meaning_statements.specs.CallStatements.{Met, Case, short, bad_table, is_closed, is_waiting, is_inner, unfit, uneven, met}
use Rattle.meaning.specs.PublicCalls.{finish}
use Rattle.meaning_preview.specs.Preview.{is_short, tidied, when_copied, tried, preview_of, previews, turned, MayEffect, may_effect, may_follow, may_of, mays, tokens}
use Rattle.meaning_preview.specs.PreviewStatements as Statements
use Rattle.meaning_preview.specs.PreviewStatements.{Turned, PreviewTurnedBack, PreviewCase, back, goes_on, PreviewCases}
use Rattle.theory_base.specs.Members.{T→true}
use Rattle.theory_sets.specs.Accepted.{judged_is}
use Rattle.theory_answers.specs.Called.{checks, called_is, long_enough}
use Rattle.theory_answers.specs.FitTest.{fit_exactly}
use Rattle.theory_answers.specs.Memory.{open_is}
use Rattle.theory_answers.specs.TurnedBack.{refuses, unfit_no, inner_gate, all_cases}

-- ---- 33, 40, 34 and 39

module _ {A : Type 0} (turn : ℕ → A) (on : A) where
  abbrev pub copied_by : Gate → Bool → Bool → A
  copied_by x f b = elim x as (λ z. A) [ turned_back n ↦ turn n | admitted ↦ elim f as (λ z. A) [ false ↦ turn 34 | true ↦ elim b as (λ z. A) [ true ↦ turn 39 | false ↦ on ] ] ]

  module _ (g : Grammar) (r : Record) (m s : Stacks) where
    pub copied_gate : (n : ℕ) → gate 34 r.status r.kind ≡ turned_back n → when_copied g r m s turn on ≡ turn n
    copied_gate n e = ap (λ x. copied_by x (stacks_fit g r m) (is_short m s)) e

    pub copied_by_lem : {f b : Bool} → is_open r ≡ true → stacks_fit g r m ≡ f → is_short m s ≡ b → when_copied g r m s turn on ≡ copied_by admitted f b
    copied_by_lem o e d = let k = open_is r.status r.kind o in ap (λ x. copied_by x (stacks_fit g r m) (is_short m s)) (ap₂ (gate 34) k.0 k.1) ∙ ap₂ (copied_by admitted) e d

pub fits_yes : (g : Grammar) (r : Record) (m : Stacks) → Fit g r m → stacks_fit g r m ≡ true
fits_yes g r m f = T→true (stacks_fit g r m) ((fit_exactly g r m).1 f)

-- ---- 30 and the table, for the set

module _ (program : Grammar → List ℕ) (bs area : List ℕ) (r : Record) (m s : Stacks) (v : ℤ) where
  abbrev pub may_by_table : Checked → MayEffect
  may_by_table x = elim x as (λ z. MayEffect) [ unusable n o ↦ may_effect (turned (table_refused n o)) s area | usable y ↦ may_of (grammar_of y) r m s v (written (program (grammar_of y)) area) ]

  abbrev pub may_by_area : Bool → MayEffect
  may_by_area b = elim b as (λ z. MayEffect) [ true ↦ may_effect (turned (refused 30 0)) s area | false ↦ may_by_table (check bs) ]

  pub mays_short : length area < area_length → mays program bs area r m s v ≡ may_effect (turned (refused 30 0)) s area
  mays_short l = ap may_by_area (lt-ltb (length area) area_length l)

  pub mays_refused : (n o : ℕ) → area_length ≤ length area → check bs ≡ unusable n o → mays program bs area r m s v ≡ may_effect (turned (table_refused n o)) s area
  mays_refused n o l e = ap may_by_area (long_enough area l) ∙ ap may_by_table e

  pub mays_is : (g : Grammar) → area_length ≤ length area → Accepted bs g → mays program bs area r m s v ≡ may_of g r m s v (written (program g) area)
  mays_is g l a = ap may_by_area (long_enough area l) ∙ (ap may_by_table (checks bs g a) ∙ ap (λ h. may_of h r m s v (written (program h) area)) a.is_grammar)

  -- ---- turned back

  abbrev Back : Answer → List ℕ → Type 0
  Back a words = ((k : ℕ) → previews program bs area r m s k v ≡ record { answer = a; state = r; stacks = s; area = words }) × (mays program bs area r m s v ≡ may_effect (turned a) s words)

  abbrev turn_preview : ℕ → Called
  turn_preview n = as_brought (refused n 0) r s

  pub previews_is : (g : Grammar) → area_length ≤ length area → Accepted bs g → (k : ℕ) → previews program bs area r m s k v ≡ effect (preview_of g r m s k v) (written (program g) area)
  previews_is g l a k = called_is program bs g a area l r s (λ h. preview_of h r m s k v)

  -- by a number after the table
  by_number : (g : Grammar) → area_length ≤ length area → Accepted bs g → (n : ℕ) → ((A : Type 0) (turn : ℕ → A) (on : A) → when_copied g r m s turn on ≡ turn n) → Back (refused n 0) (written (program g) area)
  by_number g l a n h = (
    (λ k. previews_is g l a k ∙ ap (λ z. effect z (written (program g) area)) (h Called turn_preview (tried g r m s k v))),
    mays_is g l a ∙ h MayEffect (λ j. may_effect (turned (refused j 0)) s (written (program g) area)) (may_effect (tokens (may_follow g r m s v)) (tidied m s) (written (program g) area)),
  )

  turned_by : (a : Answer) (words : List ℕ) → Turned program bs area r m s a words → Back a words
  turned_by a words (Statements.short l) = ((λ k. rw (lt-ltb (length area) area_length l, called)), mays_short l)
  turned_by a words (Statements.bad_table l n o j) = let e = refuses bs n o ((judged_is bs (rejected n o)).0 j) in ((λ k. rw (long_enough area l, e, called)), mays_refused n o l e)
  turned_by a words (Statements.is_closed l g x e) = by_number g l x 33 (λ A turn on. copied_gate turn on g r m s 33 (ap (λ z. gate 34 z r.kind) e))
  turned_by a words (Statements.is_waiting l g x e f) = by_number g l x 40 (λ A turn on. copied_gate turn on g r m s 40 (ap₂ (gate 34) e f))
  turned_by a words (Statements.is_inner l g x e f) = by_number g l x 34 (λ A turn on. copied_gate turn on g r m s 34 (inner_gate r.status r.kind e f))
  turned_by a words (Statements.unfit l g x o f) = by_number g l x 34 (λ A turn on. copied_by_lem turn on g r m s o (unfit_no g r m f) refl)
  turned_by a words (Statements.short_scratch g x e) = by_number g x.long x.accepts 39 (λ A turn on. copied_by_lem turn on g r m s x.is_open (fits_yes g r m x.fits) e)

pub preview_turned_back : PreviewTurnedBack
preview_turned_back program bs area r m s v a words t = turned_by program bs area r m s v a words t

-- ---- all the cases

pub preview_cases : PreviewCases
preview_cases program bs area r m s = go (all_cases bs area r m finish).0
  where
    by : (g : Grammar) → Met bs g area r m → (b : Bool) → is_short m s ≡ b → PreviewCase program bs area r m s
    by g x true e = back (refused 39 0) (written (program g) area) (Statements.short_scratch g x e)
    by g x false e = goes_on g x e

    go : Case bs area r m finish → PreviewCase program bs area r m s
    go (short l) = back (refused 30 0) area (Statements.short l)
    go (bad_table l n o j) = back (table_refused n o) area (Statements.bad_table l n o j)
    go (is_closed l g a e) = back (refused 33 0) (written (program g) area) (Statements.is_closed l g a e)
    go (is_waiting l g a e f) = back (refused 40 0) (written (program g) area) (Statements.is_waiting l g a e f)
    go (is_inner l g a e f) = back (refused 34 0) (written (program g) area) (Statements.is_inner l g a e f)
    go (unfit l g a o f) = back (refused 34 0) (written (program g) area) (Statements.unfit l g a o f)
    go (uneven g x e) = absurd (e tt)
    go (met g x e) = by g x (is_short m s) refl
