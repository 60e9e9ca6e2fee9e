-- 33, 40 and 34, and the calls once they are judged.
use Rattle.std.specs.Prelude.{ℕ, ◌≤◌, min, ◌≡◌, refl, Bool, true, false, List, length, take, T, ℤ}
use Rattle.std.proofs.Common.{arith, sym, ap, ap₂, ◌∙◌, subst}
use Rattle.meaning.specs.Limits.{registers_limit, places_limit}
use Rattle.meaning.specs.Grammar.{Grammar}
use Rattle.meaning.specs.Fit.{Fit}
use Rattle.meaning.specs.Calls.{Status, running, waiting, closed, Kind, outer, inner, Gate, admitted, turned_back, gate, Record, Stacks, Called, refused, as_brought, when_fit, stacks_fit}
use Rattle.meaning.specs.PublicCalls.{stacks_of}
use Rattle.theory_base.specs.Members.{T→true}
use Rattle.theory_answers.specs.FitTest.{fit_exactly}
use Rattle.refusals.specs.declared.Refusal.{Refusal}
use Rattle.refusals.specs.declared.Refusal.TheVariants.{UnknownToken, UnexpectedToken, ConditionFalse, ValueOutside, OverTooEarly, AreaShort, NoRegister, NoPlace, Closed, Unfit, LimitReached, BufferShort, Unsuited, UnequalLists, ScratchShort, Waiting, SheetShort, WindowUnfit, SheetWrong}
use Rattle.refusals.specs.Numbers.{refusal_number}
use Rattle.records.specs.States.{gate_of, gate_number, is_admitted}
use Rattle.run_fit.specs.Cut.{fits_cut}

abbrev pub number_by : Gate → Bool → ℕ
number_by (turned_back n) f = n
number_by admitted false = 34
number_by admitted true = 0

-- the number that turns a call back before its moves; 0 for none. 02 (h): 40 "after 33 and before 34"
abbrev pub number_for : ℕ → Grammar → Record → Stacks → ℕ
number_for k g r m = number_by (gate_of k r) (stacks_fit g r m)

-- what is done by the judgement
abbrev pub judged_by : {A : Type 0} → (ℕ → A) → A → Gate → Bool → A
judged_by back on x f = elim x [ turned_back n ↦ back n | admitted ↦ elim f [ false ↦ back 34 | true ↦ on ] ]

admits : (k : ℕ) → 1 ≤ k → (s : Status) (d : Kind) → gate_number (gate k s d) ≡ 0 → gate k s d ≡ admitted
admits k l running outer e = refl
admits k l running (inner a b) e = absurd (omega arith)
admits k l waiting outer e = absurd (omega arith)
admits k l waiting (inner a b) e = absurd (omega arith)
admits k l closed d e = absurd (omega arith)

differ : false ≡ true → ⊥
differ e = absurd (subst T (sym e) tt)

module _ (k : ℕ) (g : Grammar) (r : Record) (m : Stacks) where
  pub number_gate : (n : ℕ) → n ≡ gate_number (gate_of k r) → (n ≡ 0 → ⊥) → n ≡ number_for k g r m
  number_gate n e z = go (gate_of k r) e
    where
      go : (x : Gate) → n ≡ gate_number x → n ≡ number_by x (stacks_fit g r m)
      go admitted d = absurd (z d)
      go (turned_back j) d = d

  -- the same by what is admitted, whatever k is
  pub number_turned : (n : ℕ) → n ≡ gate_number (gate_of k r) → false ≡ is_admitted (gate_of k r) → n ≡ number_for k g r m
  number_turned n = go (gate_of k r)
    where
      go : (x : Gate) → n ≡ gate_number x → false ≡ is_admitted x → n ≡ number_by x (stacks_fit g r m)
      go admitted d e = absurd (differ e)
      go (turned_back j) d e = d

  pub number_admitted : (f : Bool) → true ≡ is_admitted (gate_of k r) → stacks_fit g r m ≡ f → number_by admitted f ≡ number_for k g r m
  number_admitted f e q = go (gate_of k r) e ∙ ap (number_by (gate_of k r)) (sym q)
    where
      go : (x : Gate) → true ≡ is_admitted x → number_by admitted f ≡ number_by x f
      go admitted d = refl
      go (turned_back j) d = absurd (differ (sym d))

  pub number_judged : 1 ≤ k → (f : Bool) → gate_number (gate_of k r) ≡ 0 → stacks_fit g r m ≡ f → number_by admitted f ≡ number_for k g r m
  number_judged l f e q = sym (ap₂ number_by (admits k l r.status r.kind e) q)

  -- by a judgement that is none
  pub passed : 1 ≤ k → number_for k g r m ≡ 0 → (gate_of k r ≡ admitted) × T (stacks_fit g r m)
  passed l e = go (stacks_fit g r m) (gate_of k r) e (admits k l r.status r.kind)
    where
      go : (f : Bool) (x : Gate) → number_by x f ≡ 0 → (gate_number x ≡ 0 → x ≡ admitted) → (x ≡ admitted) × T f
      go true x e a = (a (zero x e), tt)
        where
          zero : (x : Gate) → number_by x true ≡ 0 → gate_number x ≡ 0
          zero admitted e = refl
          zero (turned_back n) e = e
      go false admitted e a = absurd (omega arith)
      go false (turned_back n) e a = absurd (clash (a e) e)
        where
          clash : turned_back n ≡ admitted → n ≡ 0 → ⊥
          clash p q = let z : ◌≡◌ {A = ℕ} 0 1 = ap (λ y. elim y [ turned_back i ↦ 0 | admitted ↦ 1 ]) p in absurd (omega arith)

  module _ {A : Type 0} (back : ℕ → A) (on : A) where
    pub judged_back : (n : ℕ) → n ≡ number_for k g r m → (n ≡ 0 → ⊥) → judged_by back on (gate_of k r) (stacks_fit g r m) ≡ back n
    judged_back n e z = go (gate_of k r) (stacks_fit g r m) e
      where
        go : (x : Gate) (f : Bool) → n ≡ number_by x f → judged_by back on x f ≡ back n
        go (turned_back j) f e = ap back (sym e)
        go admitted false e = ap back (sym e)
        go admitted true e = absurd (z e)

    pub judged_on : 1 ≤ k → number_for k g r m ≡ 0 → judged_by back on (gate_of k r) (stacks_fit g r m) ≡ on
    judged_on l e = let p = passed l e in ap₂ (judged_by back on) p.0 (T→true (stacks_fit g r m) p.1)

module _ (g : Grammar) (r : Record) (m : Stacks) (k : Called) where
  pub when_turned : (n : ℕ) → n ≡ number_for 34 g r m → (n ≡ 0 → ⊥) → when_fit g r m k ≡ as_brought (refused n 0) r m
  when_turned = judged_back 34 g r m (λ n. as_brought (refused n 0) r m) k

  pub when_not : number_for 34 g r m ≡ 0 → when_fit g r m k ≡ k
  when_not = judged_on 34 g r m (λ n. as_brought (refused n 0) r m) k (omega arith)

pub not_turned : (g : Grammar) (r : Record) (m : Stacks) → number_for 34 g r m ≡ 0 → Fit g r m
not_turned g r m e = (fit_exactly g r m).0 (passed 34 g r m (omega arith) e).1

-- by the lent cells alone
pub number_cut : (k : ℕ) (g : Grammar) (r : Record) (vs : List ℤ) (ps : List ℕ) (i j : ℕ) → i ≡ min (length vs) registers_limit → j ≡ min (length ps) places_limit → (n : ℕ) → n ≡ number_for k g r (stacks_of (take i vs) (take j ps)) → n ≡ number_for k g r (stacks_of vs ps)
number_cut k g r vs ps i j e d n q = q ∙ (ap₂ (λ x y. number_for k g r (stacks_of (take x vs) (take y ps))) e d ∙ ap (number_by (gate_of k r)) (sym (fits_cut g r (stacks_of vs ps))))

-- no refusal has the number 0
pub refused_number : (r : Refusal) → 20 ≤ refusal_number r
refused_number UnknownToken = omega arith
refused_number UnexpectedToken = omega arith
refused_number ConditionFalse = omega arith
refused_number ValueOutside = omega arith
refused_number OverTooEarly = omega arith
refused_number AreaShort = omega arith
refused_number NoRegister = omega arith
refused_number NoPlace = omega arith
refused_number Closed = omega arith
refused_number Unfit = omega arith
refused_number LimitReached = omega arith
refused_number BufferShort = omega arith
refused_number Unsuited = omega arith
refused_number UnequalLists = omega arith
refused_number ScratchShort = omega arith
refused_number Waiting = omega arith
refused_number SheetShort = omega arith
refused_number WindowUnfit = omega arith
refused_number SheetWrong = omega arith
