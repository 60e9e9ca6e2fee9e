-- A table of sets, one word for each nonterminal.
use Rattle.std.specs.Prelude.{ℕ, ◌≤◌, ◌<◌, ◌≡◌, refl, ◌⊎◌, Bool, List, T, length, get_or, set, replicate}
use Rattle.std.proofs.Math.Decide.{ℕ_discrete}
use Rattle.std.proofs.Common.{arith, sym, ap, subst, inl, inr, ⊎_elim, length-set, get_or-set_same, get_or-set_other}
use Rattle.std.specs.Int.Bits.{bit_or}
use Rattle.meaning.specs.Grammar.{Symbol, terminal, nonterminal}
use Rattle.set_words.specs.Views.{members, sees, Inside}
use Rattle.set_words.specs.Growth.{or_left, or_right, or_members, none_in}
use Rattle.theory_base.specs.Members.{replicate_at}

-- r is t with `add` added to the set of a symbol's nonterminal
pub record Added (t : List ℕ) (x : Symbol) (add : ℕ) (r : List ℕ) : Type 0 where
  pub size : length r ≡ length t
  pub keeps : (u b : ℕ) → T (sees t u b) → T (sees r u b)
  pub adds : (n : ℕ) → x ≡ nonterminal n → (u : ℕ) → T (members add u) → T (sees r u n)
  pub only : (u b : ℕ) → T (sees r u b) → T (sees t u b) ⊎ ((x ≡ nonterminal b) × T (members add u))

module _ (t : List ℕ) (a add : ℕ) (lt : a < length t) where
  abbrev sum : ℕ
  sum = bit_or (get_or t a 0) add

  there : (u : ℕ) → T (members sum u) → T (sees (set t a sum) u a)
  there u h = rw (get_or-set_same t a sum 0 lt) h

  keep_in : (u b : ℕ) → T (sees t u b) → Dec (b ≡ a) → T (sees (set t a sum) u b)
  keep_in u b h (yes e) = subst (λ (y : ℕ). T (sees (set t a sum) u y)) (sym e) (there u (or_left (get_or t a 0) add u (subst (λ (y : ℕ). T (sees t u y)) e h)))
  keep_in u b h (no n) = rw (get_or-set_other t a b sum 0 n) h

  only_in : (u b : ℕ) → T (sees (set t a sum) u b) → Dec (b ≡ a) → T (sees t u b) ⊎ ((nonterminal a ≡ nonterminal b) × T (members add u))
  only_in u b h (yes e) =
      ⊎_elim (λ o. inl (subst (λ (y : ℕ). T (sees t u y)) (sym e) o)) (λ o. inr (ap nonterminal (sym e), o))
      (or_members (get_or t a 0) add u (rw (get_or-set_same t a sum 0 lt) at (subst (λ (y : ℕ). T (sees (set t a sum) u y)) e h)))
  only_in u b h (no n) = inl (rw (get_or-set_other t a b sum 0 n) at h)

  pub added : Added t (nonterminal a) add (set t a sum)
  added =
      record {
        size = length-set t a sum;
        keeps = λ u b h. keep_in u b h (ℕ_discrete b a);
        adds = λ n q u h. at n q u (there u (or_right (get_or t a 0) add u h));
        only = λ u b h. only_in u b h (ℕ_discrete b a);
      }
    where
      at : (n : ℕ) → nonterminal a ≡ nonterminal n → (u : ℕ) → T (sees (set t a sum) u a) → T (sees (set t a sum) u n)
      at n q u h = let f : a ≡ n = cc in subst (λ (y : ℕ). T (sees (set t a sum) u y)) f h

-- a token has no set
pub added_none : (t : List ℕ) (s add : ℕ) → Added t (terminal s) add t
added_none t s add =
    record {
      size = refl;
      keeps = λ u b h. h;
      adds = λ n q. absurd (let z : ◌≡◌ {A = ℕ} 0 1 = cc in omega arith);
      only = λ u b h. inl h;
    }

-- the empty table

pub zeros_none : (n u a : ℕ) → T (sees (replicate n 0) u a) → ⊥
zeros_none n u a h = let y : T (members 0 u) = rw (replicate_at {A = ℕ} n a 0) at h in rw (none_in u) at y

-- the first n nonterminals alone have sets
pub record Short (n : ℕ) (t : List ℕ) : Type 0 where
  pub beyond : (a u : ℕ) → n ≤ a → T (sees t u a) → ⊥

-- the least table above s whose views are closed
pub record SettledTable (C : ℕ → (ℕ → Bool) → Type 0) (s r : List ℕ) : Type 0 where
  pub keeps : (u : ℕ) → Inside (sees s u) (sees r u)
  pub closed : (u : ℕ) → C u (sees r u)
  pub least : (u : ℕ) (see : ℕ → Bool) → C u see → Inside (sees s u) see → Inside (sees r u) see
