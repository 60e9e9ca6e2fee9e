-- 02's words for the ranking: each candidate once, who stands in front of whom, and a report that the order leaves as it was.
use Rattle.std.specs.Prelude.{ℕ, zero, suc, ◌+◌, ◌<◌, ◌≡◌, refl, Bool, true, false, cond, List, [], ◌∷◌, length, get_or, ℤ, pos, ◌+ℤ◌}
use Rattle.std.proofs.Common.{arith, sym, ap, ◌∙◌, inl, inr}
use Rattle.std.proofs.Math.IntN.{+ℤ_assoc, +ℤ_comm}
use Rattle.std.specs.Int.Signed.{lt_z}
use Rattle.meaning.specs.Base.{In}
use Rattle.meaning_house.specs.Order.{Shuffled, neither, kept, swapped, through}
use Rattle.meaning_ranking.specs.RankingStatements.{Front}
use Rattle.meaning_ranking.specs.Ranking.{RankEntry, number, value, valued, ahead, stands, before, Ranks, worth, total_of, valued_of}
use Rattle.theory_ranking.specs.Entries.{Distinct, Ranged}
use Rattle.theory_ranking.specs.Ordering.{absurdly, not_less, neither_less}
use Rattle.theory_ranking.specs.Sorting.{blank, in_get, sorted_get, distinct_shuffled}

-- ---- candidates counted from 0

abbrev pub counted_from : ℕ → List RankEntry → Type 0
counted_from k [] = Unit {0}
counted_from k (e ∷ es) = (number e ≡ pos k) × counted_from (suc k) es

later_number : (k : ℕ) (es : List RankEntry) (y : RankEntry) → counted_from (suc k) es → In y es → number y ≡ pos k → ⊥
later_number k es y c i e = go (suc k) es c i e (omega arith)
  where
    step : (j : ℕ) (x : RankEntry) → number x ≡ pos j → y ≡ x → number y ≡ pos k → k < j → ⊥
    step j x p q r l = let z : pos j ≡ pos k = sym p ∙ (ap number (sym q) ∙ r) in let w : j ≡ k = cc in omega arith

    go : (j : ℕ) (xs : List RankEntry) → counted_from j xs → In y xs → number y ≡ pos k → k < j → ⊥
    go j [] d m r l = m
    go j (x ∷ xs) d (inl q) r l = step j x d.0 q r l
    go j (x ∷ xs) d (inr m) r l = go (suc j) xs d.1 m r (omega arith)

pub counted_distinct : (k : ℕ) (es : List RankEntry) → counted_from k es → Distinct es
counted_distinct k [] c = tt
counted_distinct k (e ∷ es) c = ((λ y i q. later_number k es y c.1 i (q ∙ c.0)), counted_distinct (suc k) es c.1)

-- ---- who stands in front

test_true : (b : Bool) → (b ≡ false → ⊥) → b ≡ true
test_true true f = refl
test_true false f = absurd (f refl)

less_number : (m n : ℤ) → (m ≡ n → ⊥) → lt_z n m ≡ false → lt_z m n ≡ true
less_number m n d e = test_true (lt_z m n) (λ f. d (neither_less m n f e))

front_valued : (a b t u : Bool) → stands b a t u ≡ false → b ≡ true → a ≡ true
front_valued true b t u e f = refl
front_valued false true t u e f = absurdly (cc)
front_valued false false t u e f = f

no_higher : (v w m n : ℤ) → ahead w v n m ≡ false → lt_z v w ≡ false
no_higher v w m n e = go (lt_z v w) refl e
  where
    go : (b : Bool) → lt_z v w ≡ b → cond b true (cond (lt_z w v) false (lt_z n m)) ≡ false → lt_z v w ≡ false
    go true p q = absurdly (cc)
    go false p q = p

no_earlier : (v w m n : ℤ) → v ≡ w → ahead w v n m ≡ false → lt_z n m ≡ false
no_earlier v w m n q e = rw (q, not_less w) at e

-- none stands behind one that it comes before, said in words
pub front_of : (x y : RankEntry) → (number x ≡ number y → ⊥) → before y x ≡ false → Front x y
unfolding before
front_of x y d e = record {
  valued_first = front_valued (valued x) (valued y) (ahead (value y) (value x) (number y) (number x)) (lt_z (number y) (number x)) e;
  highest = λ p q. no_higher (value x) (value y) (number x) (number y) (rw (p, q) at e);
  equals = λ p q r. less_number (number x) (number y) d (no_earlier (value x) (value y) (number x) (number y) r (rw (p, q) at e));
  refused = λ p q. less_number (number x) (number y) d (rw (p, q) at e);
}

distinct_get : (xs : List RankEntry) (i j : ℕ) → Distinct xs → i < j → j < length xs → number (get_or xs i blank) ≡ number (get_or xs j blank) → ⊥
distinct_get [] i j d l m e = absurd (omega arith)
distinct_get (x ∷ xs) i zero d l m e = absurd (omega arith)
distinct_get (x ∷ xs) zero (suc j) d l m e = d.0 (get_or xs j blank) (in_get xs j (omega arith)) (sym e)
distinct_get (x ∷ xs) (suc i) (suc j) d l m e = distinct_get xs i j d.1 (omega arith) (omega arith) e

-- every two of a ranking
pub ranks_front : (es rs : List RankEntry) (i j : ℕ) → Distinct es → Ranks es rs → i < j → j < length rs → Front (get_or rs i blank) (get_or rs j blank)
ranks_front es rs i j d r l m = front_of (get_or rs i blank) (get_or rs j blank) (distinct_get rs i j (distinct_shuffled r.each d) l m) (sorted_get rs i j r.sorted l m)

-- ---- the report

turn_about : (a b c : ℤ) → a +ℤ (b +ℤ c) ≡ b +ℤ (a +ℤ c)
turn_about a b c = sym (+ℤ_assoc a b c) ∙ (ap (λ t. t +ℤ c) (+ℤ_comm a b) ∙ +ℤ_assoc b a c)

pub total_shuffled : {xs ys : List RankEntry} → Shuffled xs ys → total_of xs ≡ total_of ys
unfolding total_of
total_shuffled neither = refl
total_shuffled (kept x s) = ap (λ t. worth x +ℤ t) (total_shuffled s)
total_shuffled (swapped x y xs) = turn_about (worth x) (worth y) (total_of xs)
total_shuffled (through s t) = total_shuffled s ∙ total_shuffled t

pub valued_shuffled : {xs ys : List RankEntry} → Shuffled xs ys → valued_of xs ≡ valued_of ys
unfolding valued_of
valued_shuffled neither = refl
valued_shuffled (kept x s) = ap (λ t. cond (valued x) 1 0 + t) (valued_shuffled s)
valued_shuffled (swapped x y xs) = omega arith
valued_shuffled (through s t) = valued_shuffled s ∙ valued_shuffled t

pub ranged_shuffled : {xs ys : List RankEntry} → Shuffled xs ys → Ranged xs → Ranged ys
ranged_shuffled neither r = r
ranged_shuffled (kept x s) r = (r.0, ranged_shuffled s r.1)
ranged_shuffled (swapped x y xs) r = (r.1.0, (r.0, r.1.1))
ranged_shuffled (through s t) r = ranged_shuffled t (ranged_shuffled s r)
