-- What closing and reaching over the rows end at is what 01's definitions compute: nullable, productive, reachable.
use Rattle.std.specs.Prelude.{ℕ, ◌<◌, ◌≡◌, refl, ◌⊎◌, Bool, true, false, ◌||◌, List, [], ◌∷◌, T, eqb, get_or}
use Rattle.std.proofs.Common.{zero-le, arith, sym, inl, inr, ⊎_elim, eqb→eq, ltb→lt}
use Rattle.meaning.specs.Base.{all, any}
use Rattle.meaning.specs.Grammar.{Symbol, terminal, nonterminal, Grammar, production_at, nonterminal_count, is_nonterminal}
use Rattle.meaning.specs.Derivation.{Listed}
use Rattle.meaning.specs.Sets.{singleton, end_number, nullable, empty_symbol}
use Rattle.meaning.specs.Decide.{productive_symbol, productive, reachable}
use Rattle.theory_base.specs.Members.{both, or_cases, or_left, or_right, same_truth}
use Rattle.theory_sets.specs.Productions.{known, symbols, lefts}
use Rattle.theory_sets.specs.Nullable.{nullable_closed}
use Rattle.theory_sets.specs.Productive.{productive_closed}
use Rattle.theory_sets.specs.Reachable.{reachable_start, reachable_closed}
use Rattle.theory_sets.specs.LeastSets.{nullable_least, productive_least, reachable_least}
use Rattle.theory_sets.specs.TokenSets.{single_has, single_only}
use Rattle.token_set.specs.SetBits.{set_of}
use Rattle.outline.specs.Images.{ImageOf}
use Rattle.set_words.specs.Views.{members, Within, fit, symbol_bit, ClosedAt, ReachAt}
use Rattle.set_words.specs.Growth.{Settled, none_in}

-- the word marks the nonterminals of a list of truth values
pub record Marks (w : ℕ) (e : List Bool) : Type 0 where
  pub is : (n : ℕ) → members w n ≡ get_or e n false

pub fits_empty : (f : ℕ → Bool) (e : List Bool) → ((n : ℕ) → f n ≡ get_or e n false) → (x : Symbol) → fit false f x ≡ empty_symbol e x
fits_empty f e k (terminal t) = refl
fits_empty f e k (nonterminal n) = k n

fits_productive : (e : List Bool) (x : Symbol) → fit true (λ n. get_or e n false) x ≡ productive_symbol e x
fits_productive e (terminal t) = refl
fits_productive e (nonterminal n) = refl

pub all_same : (f h : Symbol → Bool) → ((x : Symbol) → f x ≡ h x) → (xs : List Symbol) → all f xs ≡ all h xs
all_same f h k [] = refl
all_same f h k (x ∷ xs) = rw (k x, all_same f h k xs)

-- a nonterminal that stands in a string of known symbols is known
pub known_in : (g : Grammar) (n : ℕ) (xs : List Symbol) → T (all (known g) xs) → T (any (is_nonterminal n) xs) → n < nonterminal_count g
known_in g n [] k t = absurd t
known_in g n (x ∷ xs) k t = go x (both (known g x) (all (known g) xs) k).0 (or_cases (is_nonterminal n x) (any (is_nonterminal n) xs) t) (known_in g n xs (both (known g x) (all (known g) xs) k).1)
  where
    go : (y : Symbol) → T (known g y) → T (is_nonterminal n y) ⊎ T (any (is_nonterminal n) xs) → (T (any (is_nonterminal n) xs) → n < nonterminal_count g) → n < nonterminal_count g
    go (terminal s) q (inl h) j = absurd h
    go (nonterminal m) q (inl h) j = rw (sym (eqb→eq m n h)) (ltb→lt m (nonterminal_count g) q)
    go y q (inr h) j = j h

-- the bits of a string: its nonterminals, and that of the end
bit_cases : (n : ℕ) (xs : List Symbol) → T (any (symbol_bit n) xs) → T (any (is_nonterminal n) xs) ⊎ T (eqb end_number n)
bit_cases n [] t = absurd t
bit_cases n (terminal s ∷ xs) t = ⊎_elim (λ h. inr h) (bit_cases n xs) (or_cases (eqb end_number n) (any (symbol_bit n) xs) t)
bit_cases n (nonterminal m ∷ xs) t = go (or_cases (eqb m n) (any (symbol_bit n) xs) t) (bit_cases n xs)
  where
    go : T (eqb m n) ⊎ T (any (symbol_bit n) xs) → (T (any (symbol_bit n) xs) → T (any (is_nonterminal n) xs) ⊎ T (eqb end_number n)) → T (any (is_nonterminal n) (nonterminal m ∷ xs)) ⊎ T (eqb end_number n)
    go (inl h) k = inl (or_left (eqb m n) (any (is_nonterminal n) xs) h)
    go (inr h) k = ⊎_elim (λ q. inl (or_right (eqb m n) (any (is_nonterminal n) xs) q)) (λ q. inr q) (k h)

bit_of : (n : ℕ) (xs : List Symbol) → T (any (is_nonterminal n) xs) → T (any (symbol_bit n) xs)
bit_of n [] t = absurd t
bit_of n (terminal s ∷ xs) t = or_right (eqb end_number n) (any (symbol_bit n) xs) (bit_of n xs t)
bit_of n (nonterminal m ∷ xs) t = ⊎_elim (or_left (eqb m n) (any (symbol_bit n) xs)) (λ h. or_right (eqb m n) (any (symbol_bit n) xs) (bit_of n xs h)) (or_cases (eqb m n) (any (is_nonterminal n) xs) t)

module _ {rows : List ℕ} {count : ℕ} {g : Grammar} (r : ImageOf rows count g) where
  pub listed : (p : ℕ) → p < count → Listed g p
  listed p l = rw r.counted l

  pub counted : (p : ℕ) → Listed g p → p < count
  counted p l = rw r.counted at l

  -- closed by the rows is closed by the grammar, and the other way round
  closed_rows : (b : Bool) (see : ℕ → Bool) (h : Symbol → Bool) → ((x : Symbol) → fit b see x ≡ h x) → ((p : ℕ) → Listed g p → T (all h (production_at g p).right) → T (see (production_at g p).left)) → Within (ClosedAt b rows) 0 count see
  closed_rows b see h k c = record { at = λ p _ l t. rw (r.left p l) (c p (listed p l) (rw (r.right p l, all_same (fit b see) h k (production_at g p).right) at t)) }

  closed_grammar : (b : Bool) (see : ℕ → Bool) (h : Symbol → Bool) → ((x : Symbol) → fit b see x ≡ h x) → Within (ClosedAt b rows) 0 count see → (p : ℕ) → Listed g p → T (all h (production_at g p).right) → T (see (production_at g p).left)
  closed_grammar b see h k c p l t =
      let m = counted p l in
      rw (r.left p m) at (c.at p zero-le m (rw (r.right p m, all_same (fit b see) h k (production_at g p).right) t))

  pub nullable_marks : (w : ℕ) → Settled (Within (ClosedAt false rows) 0 count) 0 w → Marks w (nullable g)
  nullable_marks w st = record { is = λ n. same_truth (members w n) (get_or (nullable g) n false) (to n) (back n) }
    where
      to : (n : ℕ) → T (members w n) → T (get_or (nullable g) n false)
      to = st.least (λ n. get_or (nullable g) n false) (closed_rows false (λ n. get_or (nullable g) n false) (empty_symbol (nullable g)) (fits_empty (λ n. get_or (nullable g) n false) (nullable g) (λ n. refl)) (nullable_closed r.sound)) (λ n t. absurd (rw (none_in n) at t))

      back : (n : ℕ) → T (get_or (nullable g) n false) → T (members w n)
      back = nullable_least r.sound (set_of w) (closed_grammar false (members w) (empty_symbol (set_of w)) (fits_empty (members w) (set_of w) (λ n. refl)) st.closed)

  pub productive_marks : (w : ℕ) → Settled (Within (ClosedAt true rows) 0 count) 0 w → Marks w (productive g)
  productive_marks w st = record { is = λ n. same_truth (members w n) (get_or (productive g) n false) (to n) (back n) }
    where
      to : (n : ℕ) → T (members w n) → T (get_or (productive g) n false)
      to = st.least (λ n. get_or (productive g) n false) (closed_rows true (λ n. get_or (productive g) n false) (productive_symbol (productive g)) (fits_productive (productive g)) (productive_closed r.sound)) (λ n t. absurd (rw (none_in n) at t))

      back : (n : ℕ) → T (get_or (productive g) n false) → T (members w n)
      back = productive_least r.sound (set_of w) (closed_grammar true (members w) (productive_symbol (set_of w)) (fits_productive (set_of w)) st.closed)

  -- a word that may have the bit of the end too
  pub reachable_below : (x w : ℕ) → set_of x ≡ singleton g.start → Settled (Within (ReachAt rows) 0 count) x w → (n : ℕ) → n < nonterminal_count g → members w n ≡ get_or (reachable g) n false
  reachable_below x w one st n low = same_truth (members w n) (get_or (reachable g) n false) to (back n)
    where
      reached : ℕ → Bool
      reached m = get_or (reachable g) m false || eqb end_number m

      known_only : (m : ℕ) → m < nonterminal_count g → T (reached m) → T (get_or (reachable g) m false)
      known_only m l t = ⊎_elim (λ h. h) (λ h. absurd (let e : end_number ≡ m = eqb→eq end_number m h in let a = r.narrow in omega arith)) (or_cases (get_or (reachable g) m false) (eqb end_number m) t)

      closed : (p : ℕ) → p < count → ReachAt rows p reached
      closed p l t m a =
          let q = listed p l in
          let c = known_only (production_at g p).left (lefts r.sound p q) (rw (r.left p l) at t) in
          go (bit_cases m (production_at g p).right (rw (r.right p l) at a)) (λ b. reachable_closed r.sound m p (known_in g m (production_at g p).right (symbols r.sound p q) b) q c b)
        where
          go : T (any (is_nonterminal m) (production_at g p).right) ⊎ T (eqb end_number m) → (T (any (is_nonterminal m) (production_at g p).right) → T (get_or (reachable g) m false)) → T (reached m)
          go (inl b) k = or_left (get_or (reachable g) m false) (eqb end_number m) (k b)
          go (inr e) k = or_right (get_or (reachable g) m false) (eqb end_number m) e

      begun : (m : ℕ) → T (members x m) → T (reached m)
      begun m t = rw (single_only g.start m (rw one at t)) (or_left (get_or (reachable g) g.start false) (eqb end_number g.start) (reachable_start r.sound))

      to : T (members w n) → T (get_or (reachable g) n false)
      to t = known_only n low (st.least reached (record { at = λ p _. closed p }) begun n t)

      back : (m : ℕ) → T (get_or (reachable g) m false) → T (members w m)
      back =
          reachable_least r.sound (set_of w) (st.keeps g.start (rw one (single_has g.start (let a = r.sound.start in let b = r.narrow in omega arith))))
          (λ m p l t a. let c = counted p l in st.closed.at p zero-le c (rw (r.left p c) t) m (rw (r.right p c) (bit_of m (production_at g p).right a)))
