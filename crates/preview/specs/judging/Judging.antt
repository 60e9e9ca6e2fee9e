-- 33, 40, 34 and 39 as one number, and what is done by it.
use Rattle.std.specs.Prelude.{ℕ, zero, suc, ◌≤◌, ◌<◌, min, ◌≡◌, refl, Bool, true, false, ◌||◌, List, length, T, ltb, ℤ}
use Rattle.std.proofs.Common.{arith, sym, ap, ap₂, ◌∙◌, subst, lt-ltb, le-ltb, ltb-false}
use Rattle.meaning.specs.Limits.{registers_limit, places_limit}
use Rattle.meaning.specs.Grammar.{Grammar}
use Rattle.meaning.specs.Calls.{Gate, admitted, turned_back, Record, Stacks, stacks_fit}
use Rattle.meaning.specs.PublicCalls.{stacks_of}
use Rattle.meaning_preview.specs.Preview.{is_short, when_copied}
use Rattle.theory_base.specs.Members.{T→true}
use Rattle.theory_preview.specs.Judging.{copied_by}
use Rattle.records.specs.States.{gate_of}
use Rattle.run_lent.specs.Judging.{number_by, number_for, passed}

-- the number that turns a preview back before its token is tried; 0 for none
abbrev pub copy_number : Grammar → Record → Stacks → Stacks → ℕ
copy_number g r m s = when_copied g r m s (λ n. n) 0

module _ (g : Grammar) (r : Record) (m s : Stacks) where
  abbrev number_with : Gate → Bool → Bool → ℕ
  number_with x f b = copied_by (λ n. n) 0 x f b

  pub copy_turned : (n : ℕ) → n ≡ number_for 34 g r m → (n ≡ 0 → ⊥) → n ≡ copy_number g r m s
  copy_turned n e z = go (gate_of 34 r) (stacks_fit g r m) e
    where
      go : (x : Gate) (f : Bool) → n ≡ number_by x f → n ≡ number_with x f (is_short m s)
      go (turned_back j) f d = d
      go admitted false d = d
      go admitted true d = absurd (z d)

  module _ (on : number_for 34 g r m ≡ 0) where
    copy_fit : (b : Bool) → is_short m s ≡ b → copy_number g r m s ≡ number_with admitted true b
    copy_fit b e =
        let p = passed 34 g r m (omega arith) on in
        ap₂ (λ x f. number_with x f (is_short m s)) p.0 (T→true (stacks_fit g r m) p.1) ∙ ap (number_with admitted true) e

    pub copy_short : is_short m s ≡ true → 39 ≡ copy_number g r m s
    copy_short e = sym (copy_fit true e)

    pub copy_on : is_short m s ≡ false → 0 ≡ copy_number g r m s
    copy_on e = sym (copy_fit false e)

  -- ---- what is done by the number

  -- by none
  pub copy_passed : copy_number g r m s ≡ 0 → (number_for 34 g r m ≡ 0) × (is_short m s ≡ false)
  copy_passed e = go (number_for 34 g r m) refl
    where
      by : number_for 34 g r m ≡ 0 → (b : Bool) → is_short m s ≡ b → (number_for 34 g r m ≡ 0) × (is_short m s ≡ false)
      by o true d = absurd (omega (arith, copy_short o d))
      by o false d = (o, d)

      go : (n : ℕ) → number_for 34 g r m ≡ n → (number_for 34 g r m ≡ 0) × (is_short m s ≡ false)
      go zero d = by d (is_short m s) refl
      go (suc n) d = absurd (omega (arith, copy_turned (suc n) (sym d) (λ z. omega arith)))

  module _ {A : Type 0} (turn : ℕ → A) (does : A) where
    pub copied_back : (n : ℕ) → n ≡ copy_number g r m s → (n ≡ 0 → ⊥) → turn n ≡ when_copied g r m s turn does
    copied_back n e z = go (gate_of 34 r) (stacks_fit g r m) (is_short m s) e
      where
        go : (x : Gate) (f b : Bool) → n ≡ number_with x f b → turn n ≡ copied_by turn does x f b
        go (turned_back j) f b d = ap turn d
        go admitted false b d = ap turn d
        go admitted true true d = ap turn d
        go admitted true false d = absurd (z d)

    pub copied_on : copy_number g r m s ≡ 0 → does ≡ when_copied g r m s turn does
    copied_on e =
        let p = copy_passed e in
        let q = passed 34 g r m (omega arith) p.0 in
        sym (ap₂ (λ x f. copied_by turn does x f (is_short m s)) q.0 (T→true (stacks_fit g r m) q.1) ∙ ap (copied_by turn does admitted true) p.1)

-- ---- by the lengths

module _ (vs rs : List ℤ) (ps qs : List ℕ) (n k : ℕ) (en : n ≡ min (length vs) registers_limit) (ek : k ≡ min (length ps) places_limit) where
  pub short_registers : length rs < n → is_short (stacks_of vs ps) (stacks_of rs qs) ≡ true
  short_registers l = ap (λ b. b || ltb (length qs) (min (length ps) places_limit)) (lt-ltb (length rs) (min (length vs) registers_limit) (omega (arith, en)))

  pub short_places : n ≤ length rs → length qs < k → is_short (stacks_of vs ps) (stacks_of rs qs) ≡ true
  short_places a l = ap₂ ◌||◌ (le-ltb (length rs) (min (length vs) registers_limit) (omega (arith, en))) (lt-ltb (length qs) (min (length ps) places_limit) (omega (arith, ek)))

  pub not_short : n ≤ length rs → k ≤ length qs → is_short (stacks_of vs ps) (stacks_of rs qs) ≡ false
  not_short a b = ap₂ ◌||◌ (le-ltb (length rs) (min (length vs) registers_limit) (omega (arith, en))) (le-ltb (length qs) (min (length ps) places_limit) (omega (arith, ek)))

  pub long_both : is_short (stacks_of vs ps) (stacks_of rs qs) ≡ false → (n ≤ length rs) × (k ≤ length qs)
  long_both e = go (ltb (length rs) (min (length vs) registers_limit)) (ltb (length qs) (min (length ps) places_limit)) refl refl e
    where
      go : (a b : Bool) → ltb (length rs) (min (length vs) registers_limit) ≡ a → ltb (length qs) (min (length ps) places_limit) ≡ b → (a || b) ≡ false → (n ≤ length rs) × (k ≤ length qs)
      go true b x y z = absurd (subst T z tt)
      go false true x y z = absurd (subst T z tt)
      go false false x y z = (omega (arith, en, ltb-false (length rs) (min (length vs) registers_limit) x), omega (arith, ek, ltb-false (length qs) (min (length ps) places_limit) y))
