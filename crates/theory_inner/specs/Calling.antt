-- Demand 1 for later inner calls: each is one of its cases, only that one, and does what is said of it; one that is not turned back by the records is the engine's call on the stretch.
use Rattle.std.specs.Prelude.{ℕ, ◌≤◌, ◌≡◌, refl, ◌⊎◌, Bool, true, false, ◌&&◌, ◌||◌, List, length, T, ltb, eqb}
use Rattle.std.proofs.Common.{sym, ap, ap₂, ◌∙◌, subst, inl, inr, ltb→lt, nltb→le, eqb→eq, lt-ltb}
use Rattle.std.proofs.Math.Bool.{or-true}
use Rattle.std.proofs.lemmas.Bool.{false≢true}
use Rattle.std.proofs.Math.Dec.{eqb_refl}
use Rattle.meaning.specs.Grammar.{Grammar}
use Rattle.meaning.specs.Judgement.{Verdict, accepted, rejected, Accepted}
use Rattle.meaning.specs.Decide.{verdict_of}
use Rattle.meaning.specs.Calls.{Status, running, waiting, closed, Kind, outer, inner, Record, Stacks, refused}
use Rattle.meaning.specs.PublicCalls.{Checked, usable, unusable, check, call_of, area_length, written, Effect}
use Rattle.meaning_inner.specs.Inner.{above, alone, InnerCalled, handed_back, InnerCall, engine_call, on_stretch, ends, after_inner, is_closed, is_running, is_waiting, is_outer, begins_at, belongs, inner_of, InnerEffect, inner_effect, by_table, inner_performs}
use Rattle.meaning_statements.specs.InnerStatements.{Belongs, InnerCase, too_short, bad_table, either_closed, apart, by_engine, stretch_call, called_by, inner_call_effect, which_inner, InnerCalls}
use Rattle.theory_base.specs.Members.{T→true, both}
use Rattle.theory_sets.specs.Accepted.{judged_is, verdict→accepted}
use Rattle.theory_answers.specs.Called.{checks, called_is, long_enough}
use Rattle.theory_answers.specs.TurnedBack.{refuses}
use Rattle.theory_inner.specs.OpenRunKept.{open_record}
use Rattle.theory_inner.specs.Cases.{by_accepted, by_refused}

-- ---- the records

abbrev fitting : Status → Kind → Status → Kind → ℕ → ℕ → Bool
fitting a b c d h p = is_waiting a && is_outer b && is_running c && begins_at d h p

fitted : (a : Status) (b : Kind) (c : Status) (d : Kind) (h p : ℕ) → fitting a b c d h p ≡ true → (a ≡ waiting) × (b ≡ outer) × (c ≡ running) × (d ≡ inner h p)
fitted running b c d h p e = absurd (false≢true e)
fitted closed b c d h p e = absurd (false≢true e)
fitted waiting (inner x y) c d h p e = absurd (false≢true e)
fitted waiting outer waiting d h p e = absurd (false≢true e)
fitted waiting outer closed d h p e = absurd (false≢true e)
fitted waiting outer running outer h p e = absurd (false≢true e)
fitted waiting outer running (inner x y) h p e = let t = both (eqb h x) (eqb p y) (subst T (sym e) tt) in (refl, refl, refl, ap₂ inner (sym (eqb→eq h x t.0)) (sym (eqb→eq p y t.1)))

module _ (o i : Record) where
  pub belongs_is : belongs o i ≡ true → Belongs o i
  belongs_is e = let f = fitted o.status o.kind i.status i.kind o.register_height o.place_height e in record { waits = f.0; is_outer = f.1; runs = f.2; begins = f.3 }

  pub is_belongs : Belongs o i → belongs o i ≡ true
  is_belongs b =
      let h = o.register_height in
      let p = o.place_height in
      (λ j. fitting (b.waits j) (b.is_outer j) (b.runs j) (b.begins j) h p) ∙ ap₂ (λ x y. x && y) (T→true (eqb h h) (eqb_refl h)) (T→true (eqb p p) (eqb_refl p))

  not_belongs : (Belongs o i → ⊥) → belongs o i ≡ false
  not_belongs n = go (belongs o i) refl
    where
      go : (x : Bool) → belongs o i ≡ x → x ≡ false
      go true e = absurd (n (belongs_is e))
      go false e = refl

  -- the inner record, read as a record of its own, is open
  pub alone_runs : Belongs o i → alone i ≡ open_record i.tokens i.moves i.register_height i.place_height
  alone_runs b = λ j. record { status = b.runs j; kind = outer; tokens = i.tokens; moves = i.moves; register_height = i.register_height; place_height = i.place_height }

not_closed : (s : Status) → (s ≡ closed → ⊥) → is_closed s ≡ false
not_closed running e = refl
not_closed waiting e = refl
not_closed closed e = absurd (e refl)

is_closed_lem : (s : Status) → is_closed s ≡ true → s ≡ closed
is_closed_lem running e = absurd (false≢true e)
is_closed_lem waiting e = absurd (false≢true e)
is_closed_lem closed e = refl

not_so : (s : Status) → is_closed s ≡ false → s ≡ closed → ⊥
not_so s e q = absurd (subst T (sym (ap is_closed q) ∙ e) tt)

either : (o i : Record) → (o.status ≡ closed) ⊎ (i.status ≡ closed) → is_closed o.status || is_closed i.status ≡ true
either o i (inl e) = ap (λ s. is_closed s || is_closed i.status) e
either o i (inr e) = ap (λ s. is_closed o.status || is_closed s) e ∙ or-true (is_closed o.status)

-- ---- the call

module _ (program : Grammar → List ℕ) (bs area : List ℕ) (o i : Record) (m : Stacks) (c : InnerCall) where
  abbrev by_area : Bool → InnerEffect
  by_area b = elim b as (λ z. InnerEffect) [
    | true ↦ inner_effect (handed_back (refused 30 0) o i m) area
    | false ↦ by_table program bs area o i m (λ g words. inner_effect (inner_of g o i m c) words)
  ]

  abbrev judged : Grammar → Bool → Bool → InnerCalled
  judged g x y = elim x as (λ z. InnerCalled) [
    | true ↦ handed_back (refused 33 0) o i m
    | false ↦ elim y as (λ z. InnerCalled) [ false ↦ handed_back (refused 34 0) o i m | true ↦ after_inner (ends c (on_stretch g i m c)) o i m (on_stretch g i m c) ]
  ]

  under : (g : Grammar) → area_length ≤ length area → Accepted bs g → (x y : Bool) → is_closed o.status || is_closed i.status ≡ x → belongs o i ≡ y → inner_performs program bs area o i m c ≡ inner_effect (judged g x y) (written (program g) area)
  under g l a x y p q =
      ap by_area (long_enough area l)
      ∙ (by_accepted program bs area o i m (λ g words. inner_effect (inner_of g o i m c) words) g a ∙ ap₂ (λ x y. inner_effect (judged g x y) (written (program g) area)) p q)

  -- the engine's call on the stretch
  pub by_engine_lem : (g : Grammar) → area_length ≤ length area → Accepted bs g → Belongs o i
      → inner_performs program bs area o i m c ≡ (let e = stretch_call program bs area i m c in inner_effect (after_inner (ends c (called_by e)) o i m (called_by e)) e.area)
  by_engine_lem g l a b =
      under g l a false true (ap₂ (λ x y. is_closed x || is_closed y) b.waits b.runs) (is_belongs o i b)
      ∙ ap (λ (e : Effect). inner_effect (after_inner (ends c (called_by e)) o i m (called_by e)) e.area) (sym (called_is program bs g a area l (alone i) (above i.kind m) (λ h. call_of h (alone i) (above i.kind m) (engine_call c))))

  call_is_lem : (y : InnerCase bs area o i) → inner_performs program bs area o i m c ≡ inner_call_effect program bs area o i m c y
  call_is_lem (too_short l) = ap by_area (lt-ltb (length area) area_length l)
  call_is_lem (bad_table l n f j) = ap by_area (long_enough area l) ∙ by_refused program bs area o i m (λ g words. inner_effect (inner_of g o i m c) words) n f j
  call_is_lem (either_closed l g a e) = under g l a true (belongs o i) (either o i e) refl
  call_is_lem (apart l g a d e n) = under g l a false false (ap₂ (λ x y. x || y) (not_closed o.status d) (not_closed i.status e)) (not_belongs o i n)
  call_is_lem (by_engine l g a b) = by_engine_lem g l a b

-- ---- which one

module _ (bs area : List ℕ) (o i : Record) where
  some_call : InnerCase bs area o i
  some_call = go (ltb (length area) area_length) refl
    where
      both_open : area_length ≤ length area → (g : Grammar) → Accepted bs g → is_closed o.status ≡ false → is_closed i.status ≡ false → (y : Bool) → belongs o i ≡ y → InnerCase bs area o i
      both_open l g a p q true e = by_engine l g a (belongs_is o i e)
      both_open l g a p q false e = apart l g a (not_so o.status p) (not_so i.status q) (λ b. absurd (false≢true (sym e ∙ is_belongs o i b)))

      records : area_length ≤ length area → (g : Grammar) → Accepted bs g → (x y : Bool) → is_closed o.status ≡ x → is_closed i.status ≡ y → InnerCase bs area o i
      records l g a true y p q = either_closed l g a (inl (is_closed_lem o.status p))
      records l g a false true p q = either_closed l g a (inr (is_closed_lem i.status q))
      records l g a false false p q = both_open l g a p q (belongs o i) refl

      by : area_length ≤ length area → (v : Verdict) → verdict_of bs ≡ v → InnerCase bs area o i
      by l (rejected n f) e = bad_table l n f ((judged_is bs (rejected n f)).1 e)
      by l accepted e = let a = verdict→accepted bs e in records l a.0 a.1 (is_closed o.status) (is_closed i.status) refl refl

      go : (b : Bool) → ltb (length area) area_length ≡ b → InnerCase bs area o i
      go true e = too_short (ltb→lt (length area) area_length (rw e tt))
      go false e = by (nltb→le (length area) area_length (rw e tt)) (verdict_of bs) refl

  -- the case's number, computed
  abbrev by_records : Bool → Bool → ℕ
  by_records true y = 3
  by_records false false = 4
  by_records false true = 5

  abbrev number : Bool → Checked → ℕ
  number true k = 1
  number false (unusable n f) = 2
  number false (usable s) = by_records (is_closed o.status || is_closed i.status) (belongs o i)

  accepted_number : (g : Grammar) → area_length ≤ length area → Accepted bs g → (x y : Bool) → is_closed o.status || is_closed i.status ≡ x → belongs o i ≡ y → number (ltb (length area) area_length) (check bs) ≡ by_records x y
  accepted_number g l a x y p q = ap₂ number (long_enough area l) (checks bs g a) ∙ ap₂ by_records p q

  is_number : (y : InnerCase bs area o i) → number (ltb (length area) area_length) (check bs) ≡ which_inner y
  is_number (too_short l) = ap (λ b. number b (check bs)) (lt-ltb (length area) area_length l)
  is_number (bad_table l n f j) = ap₂ number (long_enough area l) (refuses bs n f ((judged_is bs (rejected n f)).0 j))
  is_number (either_closed l g a e) = accepted_number g l a true (belongs o i) (either o i e) refl
  is_number (apart l g a d e n) = accepted_number g l a false false (ap₂ (λ x y. x || y) (not_closed o.status d) (not_closed i.status e)) (not_belongs o i n)
  is_number (by_engine l g a b) = accepted_number g l a false true (ap₂ (λ x y. is_closed x || is_closed y) b.waits b.runs) (is_belongs o i b)

pub inner_calls : InnerCalls
inner_calls program bs area o i m c = let x = some_call bs area o i in (x, λ y. (sym (is_number bs area o i y) ∙ is_number bs area o i x, call_is_lem program bs area o i m c y))
