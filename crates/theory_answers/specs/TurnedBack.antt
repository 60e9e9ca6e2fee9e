-- Every call that is turned back before its moves, and every opening: answer, record, stacks and area; and with the calls that move these are all.
use Rattle.std.specs.Prelude.{ℕ, ◌≤◌, ◌<◌, ◌≡◌, refl, Bool, true, false, List, length, T, ltb}
use Rattle.std.proofs.Common.{arith, sym, ap, ap₂, ◌∙◌, subst, ltb→lt, nltb→le, lt-ltb, le-ltb}
use Rattle.std.proofs.Math.Decide.{ℕ_discrete}
use Rattle.std.proofs.lemmas.List.{length-replicate}
use Rattle.meaning.specs.Grammar.{Grammar, syn, nonterminal}
use Rattle.meaning.specs.Table.{Read, well_formed, malformed, read_table, grammar_of}
use Rattle.meaning.specs.Judgement.{Verdict, accepted, rejected, Accepted}
use Rattle.meaning.specs.Decide.{judge, verdict_of}
use Rattle.meaning.specs.Machine.{opening}
use Rattle.meaning.specs.Calls.{Status, running, waiting, closed, Kind, outer, inner, Gate, admitted, turned_back, gate, is_open, Record, Stacks, Called, more, refused, closed_record, lay_all, record_of, as_brought, lent_of, stacks_fit, open_of}
use Rattle.meaning.specs.Fit.{Fit}
use Rattle.meaning.specs.PublicCalls.{Checked, usable, unusable, checked_as, check, Call, feed, finish, call_of, area_length, written, effect, called, performs}
use Rattle.meaning_statements.specs.CallStatements.{handed_back, ShortArea, BadTable, BadState, Opening, Even, Met, Case, short, bad_table, is_closed, is_waiting, is_inner, unfit, uneven, met, which_case, AllCases}
use Rattle.theory_sets.specs.Accepted.{judged_is, verdict→accepted}
use Rattle.theory_answers.specs.Called.{checks, called_is, long_enough}
use Rattle.theory_base.specs.Members.{T→true}
use Rattle.theory_answers.specs.FitTest.{fit_exactly}
use Rattle.theory_answers.specs.Memory.{open_is}
use Rattle.theory_answers.specs.Answers.{made, call_is_lem}

-- ---- 30

pub short_area : ShortArea
short_area program bs area r m c l = let h = lt-ltb (length area) area_length l in (rw (h, called), rw (h, called))

-- ---- the table

pub refuses : (bs : List ℕ) (n o : ℕ) → verdict_of bs ≡ rejected n o → check bs ≡ unusable n o
refuses bs n o h = by (read_table bs) h
  where
    by : (x : Read) → elim x as (λ z. Verdict) [ malformed k f ↦ rejected k f | well_formed s ↦ judge s ] ≡ rejected n o → elim x as (λ z. Checked) [ malformed k f ↦ unusable k f | well_formed s ↦ checked_as s (judge s) ] ≡ unusable n o
    by (malformed k f) h = cc
    by (well_formed s) h = ap (checked_as s) h

pub bad_table_lem : BadTable
bad_table_lem program bs area r m c n o l j =
    let h = long_enough area l in
    let k = refuses bs n o ((judged_is bs (rejected n o)).0 j) in
    (rw (h, k, called), rw (h, k, called))

-- ---- 33, 40 and 34

pub unfit_no : (g : Grammar) (r : Record) (m : Stacks) → (Fit g r m → ⊥) → stacks_fit g r m ≡ false
unfit_no g r m f = go (stacks_fit g r m) refl
  where
    go : (x : Bool) → stacks_fit g r m ≡ x → x ≡ false
    go true e = absurd (f ((fit_exactly g r m).0 (rw e tt)))
    go false e = refl

-- a record of the wrong kind
pub inner_gate : (s : Status) (k : Kind) → (s ≡ closed → ⊥) → (k ≡ outer → ⊥) → gate 34 s k ≡ turned_back 34
inner_gate running outer e f = absurd (f refl)
inner_gate running (inner a b) e f = refl
inner_gate waiting outer e f = absurd (f refl)
inner_gate waiting (inner a b) e f = refl
inner_gate closed k e f = absurd (e refl)

module _ (g : Grammar) (r : Record) (m : Stacks) where
  abbrev judged : Called → Gate → Bool → Called
  judged k b f = elim b as (λ z. Called) [ turned_back n ↦ as_brought (refused n 0) r m | admitted ↦ elim f as (λ z. Called) [ false ↦ as_brought (refused 34 0) r m | true ↦ k ] ]

  pub by_gate_lem : (n : ℕ) (c : Call) → gate 34 r.status r.kind ≡ turned_back n → call_of g r m c ≡ as_brought (refused n 0) r m
  by_gate_lem n c e = call_is_lem g r m c ∙ ap (λ (b : Gate). judged (made g r m c) b (stacks_fit g r m)) e

  unfit_34 : (c : Call) → is_open r ≡ true → stacks_fit g r m ≡ false → call_of g r m c ≡ as_brought (refused 34 0) r m
  unfit_34 c e f =
      let o = open_is r.status r.kind e in
      call_is_lem g r m c ∙ (ap (λ (b : Gate). judged (made g r m c) b (stacks_fit g r m)) (ap₂ (gate 34) o.0 o.1) ∙ ap (λ (b : Bool). judged (made g r m c) admitted b) f)

pub bad_state : BadState
bad_state program bs area g r m c l a =
    let p : (n : ℕ) → call_of g r m c ≡ as_brought (refused n 0) r m → performs program bs area r m c ≡ handed_back (refused n 0) r m (written (program g) area) = λ n q. called_is program bs g a area l r m (λ h. call_of h r m c) ∙ ap (λ k. effect k (written (program g) area)) q in (
      (λ e. p 33 (by_gate_lem g r m 33 c (ap (λ s. gate 34 s r.kind) e))),
      (λ e f. p 40 (by_gate_lem g r m 40 c (ap₂ (gate 34) e f))),
      (λ e f. p 34 (by_gate_lem g r m 34 c (inner_gate r.status r.kind e f))),
      (λ e f. p 34 (unfit_34 g r m c e (unfit_no g r m f))),
    )

-- ---- an opening

module _ (g : Grammar) (m : Stacks) where
  results : length (opening g).registers ≡ syn g (nonterminal g.start)
  results = length-replicate _ _

  pub open_31 : (lent_of m).max_registers < syn g (nonterminal g.start) → open_of g m ≡ as_brought (refused 31 0) closed_record m
  open_31 e = let h = lt-ltb (lent_of m).max_registers (length (opening g).registers) (omega (arith, results)) in rw (h, open_of)

  pub open_32 : syn g (nonterminal g.start) ≤ (lent_of m).max_registers → (lent_of m).max_places < 1 → open_of g m ≡ as_brought (refused 32 0) closed_record m
  open_32 e f = let h = le-ltb (lent_of m).max_registers (length (opening g).registers) (omega (arith, results)) in let i = lt-ltb (lent_of m).max_places 1 f in rw (h, i, open_of)

  pub open_on : syn g (nonterminal g.start) ≤ (lent_of m).max_registers → 1 ≤ (lent_of m).max_places → open_of g m ≡ record { answer = more 0; state = record_of true (opening g); stacks = lay_all g (opening g) m }
  open_on e f = let h = le-ltb (lent_of m).max_registers (length (opening g).registers) (omega (arith, results)) in let i = le-ltb (lent_of m).max_places 1 f in rw (h, i, open_of)

pub opening_is : Opening
opening_is program bs area g m l a =
    let p = called_is program bs g a area l closed_record m (λ h. open_of h m) in
    ((λ e. p ∙ ap (λ k. effect k (written (program g) area)) (open_31 g m e)), (λ e f. p ∙ ap (λ k. effect k (written (program g) area)) (open_32 g m e f)), (λ e f. p ∙ ap (λ k. effect k (written (program g) area)) (open_on g m e f)))

-- ---- all the cases

is_even : (c : Call) → Dec (Even c)
is_even (feed ks vs) = ℕ_discrete (length ks) (length vs)
is_even finish = yes tt

abbrev by_even : {A : Type 0} → Dec A → ℕ
by_even (yes e) = 8
by_even (no e) = 7

even_is : {A : Type 0} (d : Dec A) → A → by_even d ≡ 8
even_is (yes e) a = refl
even_is (no e) a = absurd (e a)

uneven_is : {A : Type 0} (d : Dec A) → (A → ⊥) → by_even d ≡ 7
uneven_is (yes e) a = absurd (a e)
uneven_is (no e) a = refl

abbrev by_fit : Bool → ℕ → ℕ
by_fit false n = 6
by_fit true n = n

abbrev by_record : Status → Kind → ℕ → ℕ
by_record closed k n = 3
by_record waiting outer n = 4
by_record waiting (inner a b) n = 5
by_record running (inner a b) n = 5
by_record running outer n = n

inner_is : (s : Status) (k : Kind) (n : ℕ) → (s ≡ closed → ⊥) → (k ≡ outer → ⊥) → by_record s k n ≡ 5
inner_is running outer n e f = absurd (f refl)
inner_is running (inner a b) n e f = refl
inner_is waiting outer n e f = absurd (f refl)
inner_is waiting (inner a b) n e f = refl
inner_is closed k n e f = absurd (e refl)

module _ (bs area : List ℕ) (r : Record) (m : Stacks) (c : Call) where
  long : area_length ≤ length area → Case bs area r m c
  long l = by (verdict_of bs) refl
    where
      even : (g : Grammar) → Met bs g area r m → Dec (Even c) → Case bs area r m c
      even g x (yes e) = met g x e
      even g x (no e) = uneven g x e

      fits : (g : Grammar) → Accepted bs g → is_open r ≡ true → (b : Bool) → stacks_fit g r m ≡ b → Case bs area r m c
      fits g a o true e = let x : Met bs g area r m = record { long = l; accepts = a; is_open = o; fits = (fit_exactly g r m).0 (rw e tt) } in even g x (is_even c)
      fits g a o false e = unfit l g a o (λ f. subst T e ((fit_exactly g r m).1 f))

      stands : (g : Grammar) → Accepted bs g → (s : Status) (k : Kind) → r.status ≡ s → r.kind ≡ k → Case bs area r m c
      stands g a closed k e f = is_closed l g a e
      stands g a waiting outer e f = is_waiting l g a e f
      stands g a waiting (inner x y) e f = is_inner l g a (λ q. let z : ◌≡◌ {A = ℕ} 0 1 = cc in absurd (omega arith)) (λ q. let z : ◌≡◌ {A = ℕ} 0 1 = cc in absurd (omega arith))
      stands g a running (inner x y) e f = is_inner l g a (λ q. let z : ◌≡◌ {A = ℕ} 0 1 = cc in absurd (omega arith)) (λ q. let z : ◌≡◌ {A = ℕ} 0 1 = cc in absurd (omega arith))
      stands g a running outer e f = fits g a (ap (λ (x : Gate). elim x as (λ z. Bool) [ admitted ↦ true | turned_back n ↦ false ]) (ap₂ (gate 34) e f)) (stacks_fit g r m) refl

      by : (v : Verdict) → verdict_of bs ≡ v → Case bs area r m c
      by (rejected n o) e = bad_table l n o ((judged_is bs (rejected n o)).1 e)
      by accepted e = let a = verdict→accepted bs e in stands a.0 a.1 r.status r.kind refl refl

  some_case : Case bs area r m c
  some_case = go (ltb (length area) area_length) refl
    where
      go : (b : Bool) → ltb (length area) area_length ≡ b → Case bs area r m c
      go true e = short (ltb→lt (length area) area_length (rw e tt))
      go false e = long (nltb→le (length area) area_length (rw e tt))

  -- the case's number, computed
  abbrev under : Grammar → ℕ
  under g = by_record r.status r.kind (by_fit (stacks_fit g r m) (by_even (is_even c)))

  abbrev number : Bool → Checked → ℕ
  number true k = 1
  number false (unusable n o) = 2
  number false (usable s) = under (grammar_of s)

  abbrev numbered : ℕ
  numbered = number (ltb (length area) area_length) (check bs)

  accepted_number : (g : Grammar) → area_length ≤ length area → Accepted bs g → numbered ≡ under g
  accepted_number g l a = ap₂ number (long_enough area l) (checks bs g a) ∙ ap under a.is_grammar

  open_number : (g : Grammar) → is_open r ≡ true → (b : Bool) → stacks_fit g r m ≡ b → under g ≡ by_fit b (by_even (is_even c))
  open_number g o b e =
      let s = open_is r.status r.kind o in
      ap₂ (λ x y. by_record x y (by_fit (stacks_fit g r m) (by_even (is_even c)))) s.0 s.1 ∙ ap (λ x. by_fit x (by_even (is_even c))) e

  met_number : (g : Grammar) → Met bs g area r m → numbered ≡ by_even (is_even c)
  met_number g x = accepted_number g x.long x.accepts ∙ open_number g x.is_open true (T→true (stacks_fit g r m) ((fit_exactly g r m).1 x.fits))

  is_number : (y : Case bs area r m c) → numbered ≡ which_case y
  is_number (short l) = ap (λ b. number b (check bs)) (lt-ltb (length area) area_length l)
  is_number (bad_table l n o j) = ap₂ number (long_enough area l) (refuses bs n o ((judged_is bs (rejected n o)).0 j))
  is_number (is_closed l g a e) = accepted_number g l a ∙ ap (λ s. by_record s r.kind (by_fit (stacks_fit g r m) (by_even (is_even c)))) e
  is_number (is_waiting l g a e f) = accepted_number g l a ∙ ap₂ (λ s k. by_record s k (by_fit (stacks_fit g r m) (by_even (is_even c)))) e f
  is_number (is_inner l g a e f) = accepted_number g l a ∙ inner_is r.status r.kind _ e f
  is_number (unfit l g a o f) = accepted_number g l a ∙ open_number g o false (unfit_no g r m f)
  is_number (uneven g x e) = met_number g x ∙ uneven_is (is_even c) e
  is_number (met g x e) = met_number g x ∙ even_is (is_even c) e

pub all_cases : AllCases
all_cases bs area r m c = let x = some_case bs area r m c in (x, λ y. sym (is_number bs area r m c y) ∙ is_number bs area r m c x)
