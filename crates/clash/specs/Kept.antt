-- Ends that are kept for all productions, production p's from attributes_limit * p on.
use Rattle.std.specs.Prelude.{ℕ, ◌+◌, ◌*◌, ◌≤◌, ◌<◌, ◌≡◌, refl, List, get_or, length, set}
use Rattle.std.proofs.Math.Decide.{ℕ_discrete}
use Rattle.std.proofs.Common.{arith, ◌∙◌, subst, length-set, get_or-set_same, get_or-set_other}
use Rattle.meaning.specs.Limits.{attributes_limit, productions_limit}

-- the ends of one side of all productions
abbrev pub bounds_length : ℕ
bounds_length = attributes_limit * productions_limit

-- p's ends among those of all
pub record Own (own ends : List ℕ) (p : ℕ) : Type 0 where
  pub at : (a : ℕ) → a < attributes_limit → get_or ends (attributes_limit * p + a) 0 ≡ get_or own a 0

-- n of p's ends are stored, and nothing else
pub record Stored (n : ℕ) (own : List ℕ) (p : ℕ) (old new : List ℕ) : Type 0 where
  pub size : length new ≡ length old
  pub here : (a : ℕ) → a < n → get_or new (attributes_limit * p + a) 0 ≡ get_or own a 0
  pub below : (j : ℕ) → j < attributes_limit * p → get_or new j 0 ≡ get_or old j 0
  pub above : (j : ℕ) → attributes_limit * p + n ≤ j → get_or new j 0 ≡ get_or old j 0

pub stored_none : (own : List ℕ) (p : ℕ) (ends : List ℕ) → Stored 0 own p ends ends
stored_none own p ends = record { size = refl; here = λ a l. absurd (omega arith); below = λ j l. refl; above = λ j l. refl }

pub stored_next :
    {n : ℕ} {own : List ℕ} {p : ℕ} {old new : List ℕ} → Stored n own p old new → attributes_limit * p + n < length old
    → Stored (n + 1) own p old (set new (attributes_limit * p + n) (get_or own n 0))
stored_next {n} {own} {p} {old} {new} s l = record {
  size = length-set new (attributes_limit * p + n) (get_or own n 0) ∙ s.size;
  here = λ a m. go a m (ℕ_discrete a n);
  below = λ j m. get_or-set_other new (attributes_limit * p + n) j (get_or own n 0) 0 (λ e. absurd (omega arith)) ∙ s.below j m;
  above = λ j m. get_or-set_other new (attributes_limit * p + n) j (get_or own n 0) 0 (λ e. absurd (omega arith)) ∙ s.above j (omega arith);
}
  where
    go : (a : ℕ) → a < n + 1 → Dec (a ≡ n) → get_or (set new (attributes_limit * p + n) (get_or own n 0)) (attributes_limit * p + a) 0 ≡ get_or own a 0
    go a m (yes e) = rw (e, get_or-set_same new (attributes_limit * p + n) (get_or own n 0) 0 (omega (arith, s.size))) refl
    go a m (no e) = get_or-set_other new (attributes_limit * p + n) (attributes_limit * p + a) (get_or own n 0) 0 (λ q. e (omega arith)) ∙ s.here a (omega arith)

pub stored_as : {n : ℕ} {own own' : List ℕ} {p : ℕ} {old new : List ℕ} → own ≡ own' → Stored n own p old new → Stored n own' p old new
stored_as {n} {p = p} {old = old} {new = new} e s = subst (λ z. Stored n z p old new) e s

module _ {own : List ℕ} {p : ℕ} {old new : List ℕ} (s : Stored attributes_limit own p old new) where
  pub stored_own : Own own new p
  stored_own = record { at = s.here }

  pub stored_other : {other : List ℕ} {q : ℕ} → Own other old q → q < p → Own other new q
  stored_other {q = q} o l = record { at = λ a m. s.below (attributes_limit * q + a) (omega arith) ∙ o.at a m }
