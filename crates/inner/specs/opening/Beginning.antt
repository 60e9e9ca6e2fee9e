-- What each inner call begins with: 30, the table, and its program written.
use Rattle.std.specs.Prelude.{ℕ, ◌≤◌, ◌≡◌, Bool, true, false, List, length, drop, ltb}
use Rattle.std.proofs.Common.{arith, sym, ap, ap₂, ◌∙◌, subst, length-append, length-drop, le-ltb}
use Rattle.meaning.specs.Grammar.{Grammar}
use Rattle.meaning.specs.Table.{grammar_of}
use Rattle.meaning.specs.Program.{program_of}
use Rattle.meaning.specs.Calls as Calls
use Rattle.meaning.specs.Calls.{Record, Stacks, more, value, refused, table_refused, closed_record, as_brought}
use Rattle.meaning.specs.PublicCalls.{Checked, usable, unusable, check, area_length, written, Effect, effect}
use Rattle.meaning_inner.specs.Inner.{InnerCalled, handed_back, inner_open_of, InnerEffect, inner_effect, by_table, when_outer_fits, inner_opens}
use Rattle.prepare.specs.Making.{ProgramStands}
use Rattle.records.specs.declared.Answer.{Answer}
use Rattle.records.specs.Records.{answer_is}
use Rattle.prepare.specs.declared.Begun.{Begun}
use Rattle.prepare.specs.declared.Begun.TheVariants.{Turned}
use Rattle.prepare.specs.Beginning.{TurnedBack, Case, BegunAs}
use Rattle.run_lent.specs.Judging.{number_for, judged_back, judged_on}

-- a call with area and table: 30, the table's refusals, or what is made of the grammar and the words written
abbrev pub inside_by : List ℕ → Record → Record → Stacks → (Grammar → List ℕ → InnerEffect) → Bool → Checked → InnerEffect
inside_by area o i m made b x = elim b as (λ z. InnerEffect) [
  | true ↦ inner_effect (handed_back (refused 30 0) o i m) area
  | false ↦ elim x as (λ z. InnerEffect) [ unusable n f ↦ inner_effect (handed_back (table_refused n f) o i m) area | usable s ↦ made (grammar_of s) (written (program_of (grammar_of s)) area) ]
]

abbrev pub called_inside : List ℕ → List ℕ → Record → Record → Stacks → (Grammar → List ℕ → InnerEffect) → InnerEffect
called_inside t area o i m made = inside_by area o i m made (ltb (length area) area_length) (check t)

-- an opening by its inner table
abbrev pub opened_inside : Record → Stacks → Grammar → List ℕ → InnerEffect
opened_inside r m g words = inner_effect (inner_open_of g r m) words

abbrev moves_in : Calls.Answer → ℕ
moves_in (more n) = n
moves_in (value v n) = n
moves_in (refused k n) = n
moves_in (table_refused k o) = o

module _ (t area : List ℕ) (o i : Record) (m : Stacks) (made : Grammar → List ℕ → InnerEffect) where
  abbrev called_by : Bool → Checked → Calls.Answer → Effect
  called_by b x z = elim b as (λ y. Effect) [
    | true ↦ effect (as_brought (refused 30 0) o m) area
    | false ↦ elim x as (λ y. Effect) [ unusable n f ↦ effect (as_brought (table_refused n f) o m) area | usable s ↦ effect (as_brought z o m) (written (program_of (grammar_of s)) area) ]
  ]

  turned_inside : (a : Answer) → TurnedBack t area a → inner_effect (handed_back (answer_is a) o i m) area ≡ called_inside t area o i m made
  turned_inside a e = go (ltb (length area) area_length) (check t) (λ z. ap (λ (y : Effect). y.answer) (e o m (λ g. as_brought z o m)))
    where
      go : (b : Bool) (x : Checked) → ((z : Calls.Answer) → (called_by b x z).answer ≡ answer_is a) → inner_effect (handed_back (answer_is a) o i m) area ≡ inside_by area o i m made b x
      go true x e = ap (λ z. inner_effect (handed_back z o i m) area) (sym (e (more 0)))
      go false (unusable n f) e = ap (λ z. inner_effect (handed_back z o i m) area) (sym (e (more 0)))
      go false (usable s) e =
          let z : ◌≡◌ {A = ℕ} 0 1 = ap moves_in (e (more 0) ∙ sym (e (more 1))) in
          absurd (omega arith)

  standing_inside : {area' : List ℕ} {size : ℕ} (s : ProgramStands t area area' size) → made (grammar_of s.state) area' ≡ called_inside t area o i m made
  standing_inside s = ap (made (grammar_of s.state)) s.is_written ∙ sym (ap₂ (inside_by area o i m made) (le-ltb (length area) area_length s.long) s.is_usable)

  long_inside : area_length ≤ length area → called_inside t area o i m made ≡ by_table program_of t area o i m made
  long_inside l = ap (λ b. inside_by area o i m made b (check t)) (le-ltb (length area) area_length l)

  pub turned_call : {area' : List ℕ} {b : Begun} → BegunAs t area area' b → (a : Answer) → b ≡ Turned a → inner_effect (handed_back (answer_is a) o i m) area' ≡ called_inside t area o i m made
  turned_call {area'} q a e =
      let z = subst (Case t area area') e q.case in
      ap (inner_effect (handed_back (answer_is a) o i m)) z.1 ∙ turned_inside a z.0

pub standing_call : {t area area' : List ℕ} {size : ℕ} (s : ProgramStands t area area' size) (o i : Record) (m : Stacks) (made : Grammar → InnerCalled) (k : InnerCalled) → k ≡ made (grammar_of s.state) → inner_effect k area' ≡ called_inside t area o i m (λ g words. inner_effect (made g) words)
standing_call {t} {area} {area'} s o i m made k e = ap (λ (z : InnerCalled). inner_effect z area') e ∙ standing_inside t area o i m (λ g words. inner_effect (made g) words) s

-- the words written do not shorten the area
still_long : {t area area' : List ℕ} {size : ℕ} → ProgramStands t area area' size → area_length ≤ length area'
still_long {area = area} s =
    let w = program_of (grammar_of s.state) in
    omega (arith, ap length s.is_written, length-append w (drop (length w) area), length-drop (length w) area, s.long)

module _ (g : Grammar) (r : Record) (m : Stacks) (area : List ℕ) (e : InnerEffect) where
  pub over_turned : (n : ℕ) → n ≡ number_for 40 g r m → (n ≡ 0 → ⊥) → inner_effect (handed_back (refused n 0) r closed_record m) area ≡ when_outer_fits g r m area e
  over_turned n q z = sym (judged_back 40 g r m (λ n. inner_effect (handed_back (refused n 0) r closed_record m) area) e n q z)

  pub over_fits : (n : ℕ) → n ≡ number_for 40 g r m → n ≡ 0 → e ≡ when_outer_fits g r m area e
  over_fits n q z = sym (judged_on 40 g r m (λ n. inner_effect (handed_back (refused n 0) r closed_record m) area) e (omega arith) (sym q ∙ z))

-- ---- the opening

-- by its outer table
abbrev pub opened_over : List ℕ → Record → Stacks → Grammar → List ℕ → InnerEffect
opened_over u r m g first = when_outer_fits g r m first (by_table program_of u first r closed_record m (opened_inside r m))

pub standing_opens : {t area area' : List ℕ} {size : ℕ} (s : ProgramStands t area area' size) (u : List ℕ) (r : Record) (m : Stacks) (e : InnerEffect)
    → e ≡ when_outer_fits (grammar_of s.state) r m area' (called_inside u area' r closed_record m (opened_inside r m)) → e ≡ inner_opens program_of t u area r m
standing_opens {t} {area} {area'} s u r m e q =
    q
    ∙ (ap (when_outer_fits (grammar_of s.state) r m area') (long_inside u area' r closed_record m (opened_inside r m) (still_long s))
    ∙ standing_inside t area r closed_record m (opened_over u r m) s)
