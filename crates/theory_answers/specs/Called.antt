-- A call that brings an accepted table and a long enough area is the call under the table's grammar.
use Rattle.std.specs.Prelude.{ℕ, ◌≤◌, ◌≡◌, refl, Bool, true, false, List, length, ltb}
use Rattle.std.proofs.Common.{arith, sym, ap, subst, ◌∙◌, ltb→lt, nltb→le}
use Rattle.meaning.specs.Grammar.{Grammar}
use Rattle.meaning.specs.Table.{State, Read, well_formed, malformed, read_table, grammar_of}
use Rattle.meaning.specs.Judgement.{Verdict, accepted, rejected, Accepted}
use Rattle.meaning.specs.Decide.{judge, verdict_of}
use Rattle.meaning.specs.Calls.{Record, Stacks, Called, more, refused, table_refused, closed_record, as_brought, open_of}
use Rattle.meaning.specs.PublicCalls.{Checked, usable, unusable, checked_as, check, area_length, written, Effect, effect, called, opens}
use Rattle.theory_sets.specs.Accepted.{accepted→verdict, verdict→accepted}

pub checks : (bs : List ℕ) (g : Grammar) (a : Accepted bs g) → check bs ≡ usable a.state
checks bs g a = go (read_table bs) a.is_read (accepted→verdict bs g a)
  where
    go : (x : Read) → x ≡ well_formed a.state → elim x as (λ z. Verdict) [ malformed n o ↦ rejected n o | well_formed s ↦ judge s ] ≡ accepted → elim x as (λ z. Checked) [ malformed n o ↦ unusable n o | well_formed s ↦ checked_as s (judge s) ] ≡ usable a.state
    go (malformed n o) e v = let z : ◌≡◌ {A = ℕ} 0 1 = cc in absurd (omega arith)
    go (well_formed s) e v = ap (checked_as s) v ∙ ap usable (cc)

usable_is : (s u : State) → ◌≡◌ {A = Checked} (usable s) (usable u) → s ≡ u
usable_is s u e = cc

check_verdict : (t : List ℕ) (s : State) → check t ≡ usable s → verdict_of t ≡ accepted
check_verdict t s h = go (read_table t) h
  where
    by : (u : State) (v : Verdict) → checked_as u v ≡ usable s → v ≡ accepted
    by u accepted h = refl
    by u (rejected n o) h = absurd (let z : ◌≡◌ {A = ℕ} 0 1 = cc in omega arith)

    go : (x : Read) → elim x as (λ z. Checked) [ malformed n o ↦ unusable n o | well_formed u ↦ checked_as u (judge u) ] ≡ usable s → elim x as (λ z. Verdict) [ malformed n o ↦ rejected n o | well_formed u ↦ judge u ] ≡ accepted
    go (malformed n o) h = absurd (let z : ◌≡◌ {A = ℕ} 0 1 = cc in omega arith)
    go (well_formed u) h = by u (judge u) h

-- whose table can be used has an accepted one
pub usable_accepted : (t : List ℕ) (s : State) → check t ≡ usable s → Accepted t (grammar_of s)
usable_accepted t s h =
    let a = verdict→accepted t (check_verdict t s h) in
    let same : a.1.state ≡ s = usable_is a.1.state s (sym (checks t a.0 a.1) ∙ h) in
    subst (Accepted t) (sym a.1.is_grammar ∙ ap grammar_of same) a.1

-- an area that is long enough
pub long_enough : (area : List ℕ) → area_length ≤ length area → ltb (length area) area_length ≡ false
long_enough area l = go (ltb (length area) area_length) refl
  where
    go : (b : Bool) → ltb (length area) area_length ≡ b → b ≡ false
    go true e = absurd (omega (arith, ltb→lt (length area) area_length (rw e tt)))
    go false e = refl

module _ (program : Grammar → List ℕ) (bs : List ℕ) (g : Grammar) (a : Accepted bs g) (area : List ℕ) (l : area_length ≤ length area) (brought : Record) (m : Stacks) (made : Grammar → Called) where
  abbrev past30 : Bool → Effect
  past30 b = elim b as (λ z. Effect) [
    | true ↦ effect (as_brought (refused 30 0) brought m) area
    | false ↦ elim (check bs) as (λ z. Effect) [ unusable n o ↦ effect (as_brought (table_refused n o) brought m) area | usable s ↦ effect (made (grammar_of s)) (written (program (grammar_of s)) area) ]
  ]

  pub called_is : called program bs area brought m made ≡ effect (made g) (written (program g) area)
  called_is =
      ap past30 (long_enough area l)
      ∙ (ap (λ (k : Checked). elim k as (λ z. Effect) [ unusable n o ↦ effect (as_brought (table_refused n o) brought m) area | usable s ↦ effect (made (grammar_of s)) (written (program (grammar_of s)) area) ]) (checks bs g a)
      ∙ ap (λ h. effect (made h) (written (program h) area)) a.is_grammar)

-- an opening that is not turned back had a long enough area
pub opened_long : (program : Grammar → List ℕ) (bs area : List ℕ) (m : Stacks) (n : ℕ) → (opens program bs area m).answer ≡ more n → area_length ≤ length area
opened_long program bs area m n h = go (ltb (length area) area_length) refl h
  where
    go : (b : Bool) → ltb (length area) area_length ≡ b → (elim b as (λ z. Effect) [
      | true ↦ effect (as_brought (refused 30 0) closed_record m) area
      | false ↦ elim (check bs) as (λ z. Effect) [ unusable k o ↦ effect (as_brought (table_refused k o) closed_record m) area | usable s ↦ effect (open_of (grammar_of s) m) (written (program (grammar_of s)) area) ]
    ]).answer ≡ more n → area_length ≤ length area
    go true e h = let z : ◌≡◌ {A = ℕ} 0 1 = cc in absurd (omega arith)
    go false e h = nltb→le (length area) area_length (rw e tt)
