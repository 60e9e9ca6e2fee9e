-- Demand 1 for openings of inner runs: each is one of its cases, only that one, and does what is said of it.
use Rattle.std.specs.Prelude.{ℕ, ◌≤◌, ◌<◌, ◌≡◌, refl, Bool, true, false, List, length, T, ltb}
use Rattle.std.proofs.Common.{arith, sym, ap, ap₂, ◌∙◌, subst, ltb→lt, nltb→le, lt-ltb, le-ltb}
use Rattle.std.proofs.Math.Decide.{dec_lt}
use Rattle.meaning.specs.Grammar.{Grammar, syn, nonterminal}
use Rattle.meaning.specs.Table.{grammar_of}
use Rattle.meaning.specs.Judgement.{Verdict, accepted, rejected, Judged, Accepted}
use Rattle.meaning.specs.Decide.{verdict_of}
use Rattle.meaning.specs.Calls.{Status, running, waiting, closed, Kind, outer, inner, Gate, admitted, turned_back, gate, is_open, Record, Stacks, Called, refused, table_refused, closed_record, lent_of, stacks_fit, open_of}
use Rattle.meaning.specs.PublicCalls.{Checked, usable, unusable, check, area_length, written}
use Rattle.meaning_inner.specs.Inner.{handed_back, opened_above, inner_open_of, InnerEffect, inner_effect, by_table, when_outer_fits, inner_opens}
use Rattle.meaning_statements.specs.CallStatements.{Met}
use Rattle.meaning_statements.specs.InnerStatements.{both_back, left_over, OpeningCase, short, bad_outer, outer_closed, is_third, unfit, bad_inner, no_register, no_place, is_opened, opening_effect, which_opening, InnerOpenings}
use Rattle.theory_base.specs.Members.{T→true}
use Rattle.theory_sets.specs.Accepted.{judged_is, verdict→accepted}
use Rattle.theory_answers.specs.Called.{checks, long_enough}
use Rattle.theory_answers.specs.FitTest.{fit_exactly}
use Rattle.theory_answers.specs.Memory.{open_is}
use Rattle.theory_answers.specs.TurnedBack.{refuses, unfit_no, open_31, open_32, open_on}

-- ---- a table's turn

module _ (program : Grammar → List ℕ) (bs area : List ℕ) (o i : Record) (m : Stacks) (made : Grammar → List ℕ → InnerEffect) where
  abbrev by_check : Checked → InnerEffect
  by_check k = elim k as (λ z. InnerEffect) [ unusable n f ↦ inner_effect (handed_back (table_refused n f) o i m) area | usable s ↦ made (grammar_of s) (written (program (grammar_of s)) area) ]

  pub by_accepted : (g : Grammar) → Accepted bs g → by_table program bs area o i m made ≡ made g (written (program g) area)
  by_accepted g a = ap by_check (checks bs g a) ∙ ap (λ h. made h (written (program h) area)) a.is_grammar

  pub by_refused : (n f : ℕ) → Judged bs (rejected n f) → by_table program bs area o i m made ≡ both_back (table_refused n f) o i m area
  by_refused n f j = ap by_check (refuses bs n f ((judged_is bs (rejected n f)).0 j))

-- ---- an opening

third_gate : (s : Status) (k : Kind) → (s ≡ closed → ⊥) → elim (gate 34 s k) as (λ z. Bool) [ admitted ↦ true | turned_back n ↦ false ] ≡ false → gate 40 s k ≡ turned_back 40
third_gate running outer e f = absurd (subst T f tt)
third_gate running (inner a b) e f = refl
third_gate waiting outer e f = refl
third_gate waiting (inner a b) e f = refl
third_gate closed k e f = absurd (e refl)

module _ (program : Grammar → List ℕ) (outer_table inner_table area : List ℕ) (r : Record) (m : Stacks) where
  abbrev first : Grammar → List ℕ
  first g = written (program g) area

  -- once the outer run fits
  abbrev inside : Grammar → InnerEffect
  inside g = by_table program inner_table (first g) r closed_record m (λ h second. inner_effect (inner_open_of h r m) second)

  abbrev by_area : Bool → InnerEffect
  by_area b = elim b as (λ z. InnerEffect) [
    | true ↦ inner_effect (handed_back (refused 30 0) r closed_record m) area
    | false ↦ by_table program outer_table area r closed_record m (λ g words. let e = by_table program inner_table words r closed_record m (λ h second. inner_effect (inner_open_of h r m) second) in when_outer_fits g r m words e)
  ]

  abbrev by_gate : Grammar → Gate → Bool → InnerEffect
  by_gate g k b = elim k as (λ z. InnerEffect) [
    | turned_back n ↦ inner_effect (handed_back (refused n 0) r closed_record m) (first g)
    | admitted ↦ elim b as (λ z. InnerEffect) [ false ↦ inner_effect (handed_back (refused 34 0) r closed_record m) (first g) | true ↦ inside g ]
  ]

  under : (g : Grammar) → area_length ≤ length area → Accepted outer_table g → inner_opens program outer_table inner_table area r m ≡ by_gate g (gate 40 r.status r.kind) (stacks_fit g r m)
  under g l a = ap by_area (long_enough area l) ∙ by_accepted program outer_table area r closed_record m (λ g words. let e = by_table program inner_table words r closed_record m (λ h second. inner_effect (inner_open_of h r m) second) in when_outer_fits g r m words e) g a

  admits : (g : Grammar) (b : Bool) → is_open r ≡ true → stacks_fit g r m ≡ b → by_gate g (gate 40 r.status r.kind) (stacks_fit g r m) ≡ by_gate g admitted b
  admits g b o e = let s = open_is r.status r.kind o in ap₂ (λ x y. by_gate g (gate 40 x y) (stacks_fit g r m)) s.0 s.1 ∙ ap (λ x. by_gate g admitted x) e

  met_inside : (g : Grammar) → Met outer_table g area r m → inner_opens program outer_table inner_table area r m ≡ inside g
  met_inside g x = under g x.long x.accepts ∙ admits g true x.is_open (T→true (stacks_fit g r m) ((fit_exactly g r m).1 x.fits))

  -- the engine's opening on what is left
  pub begun : (g h : Grammar) → Met outer_table g area r m → Accepted inner_table h → (k : Called) → open_of h (left_over r m) ≡ k → inner_opens program outer_table inner_table area r m ≡ inner_effect (opened_above (is_open k.state) r m k) (written (program h) (first g))
  begun g h x a k e =
      met_inside g x
      ∙ (by_accepted program inner_table (first g) r closed_record m (λ h second. inner_effect (inner_open_of h r m) second) h a
      ∙ ap (λ (z : Called). inner_effect (opened_above (is_open z.state) r m z) (written (program h) (first g))) e)

  opening_is : (y : OpeningCase outer_table inner_table area r m) → inner_opens program outer_table inner_table area r m ≡ opening_effect program outer_table inner_table area r m y
  opening_is (short l) = ap by_area (lt-ltb (length area) area_length l)
  opening_is (bad_outer l n f j) = ap by_area (long_enough area l) ∙ by_refused program outer_table area r closed_record m (λ g words. let e = by_table program inner_table words r closed_record m (λ h second. inner_effect (inner_open_of h r m) second) in when_outer_fits g r m words e) n f j
  opening_is (outer_closed l g a e) = under g l a ∙ ap (λ s. by_gate g (gate 40 s r.kind) (stacks_fit g r m)) e
  opening_is (is_third l g a e o) = under g l a ∙ ap (λ (k : Gate). by_gate g k (stacks_fit g r m)) (third_gate r.status r.kind e o)
  opening_is (unfit l g a o e) = under g l a ∙ admits g false o (unfit_no g r m e)
  opening_is (bad_inner g x n f j) = met_inside g x ∙ by_refused program inner_table (first g) r closed_record m (λ h second. inner_effect (inner_open_of h r m) second) n f j
  opening_is (no_register g x h a l) = begun g h x a _ (open_31 h (left_over r m) l)
  opening_is (no_place g x h a k l) = begun g h x a _ (open_32 h (left_over r m) k l)
  opening_is (is_opened g x h a k l) = begun g h x a _ (open_on h (left_over r m) k l)

  -- ---- which one

  roomy : (g : Grammar) → Met outer_table g area r m → (h : Grammar) → Accepted inner_table h → Dec ((lent_of (left_over r m)).max_registers < syn h (nonterminal h.start)) → Dec ((lent_of (left_over r m)).max_places < 1) → OpeningCase outer_table inner_table area r m
  roomy g x h a (yes l) p = no_register g x h a l
  roomy g x h a (no k) (yes l) = no_place g x h a (omega arith) l
  roomy g x h a (no k) (no l) = is_opened g x h a (omega arith) (omega arith)

  second : (g : Grammar) → Met outer_table g area r m → (v : Verdict) → verdict_of inner_table ≡ v → OpeningCase outer_table inner_table area r m
  second g x (rejected n f) e = bad_inner g x n f ((judged_is inner_table (rejected n f)).1 e)
  second g x accepted e = let a = verdict→accepted inner_table e in roomy g x a.0 a.1 (dec_lt _ _) (dec_lt _ _)

  fitting : area_length ≤ length area → (g : Grammar) → Accepted outer_table g → is_open r ≡ true → (b : Bool) → stacks_fit g r m ≡ b → OpeningCase outer_table inner_table area r m
  fitting l g a o false e = unfit l g a o (λ f. subst T e ((fit_exactly g r m).1 f))
  fitting l g a o true e = second g (record { long = l; accepts = a; is_open = o; fits = (fit_exactly g r m).0 (rw e tt) }) (verdict_of inner_table) refl

  standing : area_length ≤ length area → (g : Grammar) → Accepted outer_table g → (s : Status) → r.status ≡ s → (b : Bool) → is_open r ≡ b → OpeningCase outer_table inner_table area r m
  standing l g a closed q b e = outer_closed l g a q
  standing l g a running q true e = fitting l g a e (stacks_fit g r m) refl
  standing l g a waiting q true e = fitting l g a e (stacks_fit g r m) refl
  standing l g a running q false e = is_third l g a (λ p. let z : ◌≡◌ {A = ℕ} 0 1 = cc in absurd (omega arith)) e
  standing l g a waiting q false e = is_third l g a (λ p. let z : ◌≡◌ {A = ℕ} 0 1 = cc in absurd (omega arith)) e

  some_opening : OpeningCase outer_table inner_table area r m
  some_opening = go (ltb (length area) area_length) refl
    where
      by : area_length ≤ length area → (v : Verdict) → verdict_of outer_table ≡ v → OpeningCase outer_table inner_table area r m
      by l (rejected n f) e = bad_outer l n f ((judged_is outer_table (rejected n f)).1 e)
      by l accepted e = let a = verdict→accepted outer_table e in standing l a.0 a.1 r.status refl (is_open r) refl

      go : (b : Bool) → ltb (length area) area_length ≡ b → OpeningCase outer_table inner_table area r m
      go true e = short (ltb→lt (length area) area_length (rw e tt))
      go false e = by (nltb→le (length area) area_length (rw e tt)) (verdict_of outer_table) refl

  -- the case's number, computed
  abbrev by_room : Bool → Bool → ℕ
  by_room true p = 7
  by_room false true = 8
  by_room false false = 9

  abbrev room_for : Grammar → ℕ
  room_for h = by_room (ltb (lent_of (left_over r m)).max_registers (syn h (nonterminal h.start))) (ltb (lent_of (left_over r m)).max_places 1)

  abbrev by_inner : Checked → ℕ
  by_inner (unusable n f) = 6
  by_inner (usable s) = room_for (grammar_of s)

  abbrev by_fit : Bool → ℕ → ℕ
  by_fit false n = 5
  by_fit true n = n

  abbrev by_record : Status → Bool → ℕ → ℕ
  by_record closed b n = 3
  by_record running false n = 4
  by_record running true n = n
  by_record waiting false n = 4
  by_record waiting true n = n

  abbrev outer_number : Grammar → ℕ
  outer_number g = by_record r.status (is_open r) (by_fit (stacks_fit g r m) (by_inner (check inner_table)))

  abbrev number : Bool → Checked → ℕ
  number true k = 1
  number false (unusable n f) = 2
  number false (usable s) = outer_number (grammar_of s)

  abbrev numbered : ℕ
  numbered = number (ltb (length area) area_length) (check outer_table)

  third_number : (s : Status) (n : ℕ) → (s ≡ closed → ⊥) → by_record s false n ≡ 4
  third_number running n e = refl
  third_number waiting n e = refl
  third_number closed n e = absurd (e refl)

  outer_number_lem : (g : Grammar) → area_length ≤ length area → Accepted outer_table g → numbered ≡ outer_number g
  outer_number_lem g l a = ap₂ number (long_enough area l) (checks outer_table g a) ∙ ap outer_number a.is_grammar

  open_number : (g : Grammar) (b : Bool) → area_length ≤ length area → Accepted outer_table g → is_open r ≡ true → stacks_fit g r m ≡ b → numbered ≡ by_fit b (by_inner (check inner_table))
  open_number g b l a o e =
      outer_number_lem g l a
      ∙ (ap₂ (λ x y. by_record x y (by_fit (stacks_fit g r m) (by_inner (check inner_table)))) (open_is r.status r.kind o).0 o ∙ ap (λ x. by_fit x (by_inner (check inner_table))) e)

  met_number : (g : Grammar) → Met outer_table g area r m → numbered ≡ by_inner (check inner_table)
  met_number g x = open_number g true x.long x.accepts x.is_open (T→true (stacks_fit g r m) ((fit_exactly g r m).1 x.fits))

  room_number : (g : Grammar) → Met outer_table g area r m → (h : Grammar) → Accepted inner_table h → (x y : Bool)
      → ltb (lent_of (left_over r m)).max_registers (syn h (nonterminal h.start)) ≡ x → ltb (lent_of (left_over r m)).max_places 1 ≡ y → numbered ≡ by_room x y
  room_number g z h a x y p q = met_number g z ∙ (ap by_inner (checks inner_table h a) ∙ (ap room_for a.is_grammar ∙ ap₂ by_room p q))

  is_number : (y : OpeningCase outer_table inner_table area r m) → numbered ≡ which_opening y
  is_number (short l) = ap (λ b. number b (check outer_table)) (lt-ltb (length area) area_length l)
  is_number (bad_outer l n f j) = ap₂ number (long_enough area l) (refuses outer_table n f ((judged_is outer_table (rejected n f)).0 j))
  is_number (outer_closed l g a e) = outer_number_lem g l a ∙ ap (λ s. by_record s (is_open r) (by_fit (stacks_fit g r m) (by_inner (check inner_table)))) e
  is_number (is_third l g a e o) = outer_number_lem g l a ∙ (ap (λ b. by_record r.status b (by_fit (stacks_fit g r m) (by_inner (check inner_table)))) o ∙ third_number r.status _ e)
  is_number (unfit l g a o e) = open_number g false l a o (unfit_no g r m e)
  is_number (bad_inner g x n f j) = met_number g x ∙ ap by_inner (refuses inner_table n f ((judged_is inner_table (rejected n f)).0 j))
  is_number (no_register g x h a l) = room_number g x h a true _ (lt-ltb (lent_of (left_over r m)).max_registers (syn h (nonterminal h.start)) l) refl
  is_number (no_place g x h a k l) = room_number g x h a false true (le-ltb (lent_of (left_over r m)).max_registers (syn h (nonterminal h.start)) k) (lt-ltb (lent_of (left_over r m)).max_places 1 l)
  is_number (is_opened g x h a k l) = room_number g x h a false false (le-ltb (lent_of (left_over r m)).max_registers (syn h (nonterminal h.start)) k) (le-ltb (lent_of (left_over r m)).max_places 1 l)

pub inner_openings : InnerOpenings
inner_openings program outer_table inner_table area r m =
    let x = some_opening program outer_table inner_table area r m in
    (x, λ y. (sym (is_number program outer_table inner_table area r m y) ∙ is_number program outer_table inner_table area r m x, opening_is program outer_table inner_table area r m y))
