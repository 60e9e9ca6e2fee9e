-- A word that grows, production by production, until nothing changes. C is what makes a view closed; P is what a step that changes nothing shows.
use Rattle.std.specs.Prelude.{ℕ, ◌+◌, ◌≤◌, ◌<◌, ◌≡◌, ◌⊎◌, Bool, false, ◌||◌, List, get_or, length, set, T}
use Rattle.std.proofs.Common.{le_refl, arith, sym, ◌∙◌, subst, ⊎_elim, length-set, get_or-set_same, get_or-set_other}
use Rattle.std.proofs.Math.Decide.{ℕ_discrete}
use Rattle.std.specs.Int.Bits.{bit_or}
use Rattle.meaning.specs.Limits.{productions_limit}
use Rattle.theory_sets.specs.TokenSets.{has_union, has_empty, union_left, union_right, union_cases}
use Rattle.token_set.specs.SetBits.{set_of, set_empty, set_or, or_grows}
use Rattle.set_words.specs.Views.{members, Inside}

pub or_left : (a b n : ℕ) → T (members a n) → T (members (bit_or a b) n)
or_left a b n t = rw (set_or a b) (union_left (set_of a) (set_of b) n t)

pub or_right : (a b n : ℕ) → T (members b n) → T (members (bit_or a b) n)
or_right a b n t = rw (set_or a b) (union_right (set_of a) (set_of b) n t)

pub or_members : (a b n : ℕ) → T (members (bit_or a b) n) → T (members a n) ⊎ T (members b n)
or_members a b n t = union_cases (set_of a) (set_of b) n (rw (set_or a b) at t)

pub or_is : (a b n : ℕ) → members (bit_or a b) n ≡ (members a n || members b n)
or_is a b n = rw (set_or a b) (has_union (set_of a) (set_of b) n)

pub none_in : (n : ℕ) → members 0 n ≡ false
none_in n = rw set_empty (has_empty n)

pub record Grown (C P : (ℕ → Bool) → Type 0) (s r : ℕ) : Type 0 where
  pub grows : s ≤ r
  pub keeps : Inside (members s) (members r)
  pub sound : (see : ℕ → Bool) → C see → Inside (members s) see → Inside (members r) see
  pub stuck : r ≡ s → P (members s)

-- the end of the steps: the least closed word above s
pub record Settled (C : (ℕ → Bool) → Type 0) (s r : ℕ) : Type 0 where
  pub keeps : Inside (members s) (members r)
  pub closed : C (members r)
  pub least : (see : ℕ → Bool) → C see → Inside (members s) see → Inside (members r) see

module _ {C P : (ℕ → Bool) → Type 0} (s : ℕ) where
  pub grown_none : P (members s) → Grown C P s s
  grown_none p = record { grows = le_refl s; keeps = λ n t. t; sound = λ see c k. k; stuck = λ e. p }

  pub grown_or : (x : ℕ) → ((see : ℕ → Bool) → C see → Inside (members s) see → Inside (members x) see) → (Inside (members x) (members s) → P (members s)) → Grown C P s (bit_or s x)
  grown_or x fine closes =
      record {
        grows = or_grows s x;
        keeps = or_left s x;
        sound = λ see c k n t. ⊎_elim (k n) (fine see c k n) (or_members s x n t);
        stuck = λ e. closes (λ n t. rw e at (or_right s x n t));
      }

module _ {C P Q R : (ℕ → Bool) → Type 0} (s r q : ℕ) where
  -- one step after another
  pub grown_then : Grown C P s r → Grown C Q r q → (P (members s) → Q (members s) → R (members s)) → Grown C R s q
  grown_then a b joins =
      record {
        grows = omega (arith, a.grows, b.grows);
        keeps = λ n t. b.keeps n (a.keeps n t);
        sound = λ see c k. b.sound see c (a.sound see c k);
        stuck = λ e. joins (a.stuck (same e)) (subst (λ (x : ℕ). Q (members x)) (same e) (b.stuck (e ∙ sym (same e))));
      }
    where
      same : q ≡ s → r ≡ s
      same e = omega (arith, a.grows, b.grows)

-- ---- a word for each of the first k productions
pub record SetsTo (f : ℕ → ℕ → Bool) (k : ℕ) (sets : List ℕ) : Type 0 where
  pub size : length sets ≡ productions_limit
  pub is : (p : ℕ) → p < k → (n : ℕ) → members (get_or sets p 0) n ≡ f p n

module _ (f : ℕ → ℕ → Bool) where
  pub sets_none : (sets : List ℕ) → length sets ≡ productions_limit → SetsTo f 0 sets
  sets_none sets e = record { size = e; is = λ p l. absurd (omega arith) }

  pub sets_next : (k x : ℕ) (sets : List ℕ) → k < productions_limit → SetsTo f k sets → ((n : ℕ) → members x n ≡ f k n) → SetsTo f (k + 1) (set sets k x)
  sets_next k x sets l s e = record { size = length-set sets k x ∙ s.size; is = λ p m n. go p m n (ℕ_discrete p k) }
    where
      go : (p : ℕ) → p < k + 1 → (n : ℕ) → Dec (p ≡ k) → members (get_or (set sets k x) p 0) n ≡ f p n
      go p m n (yes q) = rw (q, get_or-set_same sets k x 0 (rw s.size l)) (e n)
      go p m n (no q) = rw (get_or-set_other sets k p x 0 q) (s.is p (omega arith) n)
