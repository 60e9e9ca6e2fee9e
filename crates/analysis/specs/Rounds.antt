-- Rounds over the productions, forwards and backwards in turn, until one changes nothing. At p is what production p asks of a view.
use Rattle.std.specs.Prelude.{ℕ, ◌+◌, ◌-◌, ◌^◌, ◌≤◌, ◌<◌, ◌≡◌, Bool}
use Rattle.std.proofs.Common.{arith}
use Rattle.set_words.specs.Views.{members, Inside, Within, within_none, within_after, within_before}
use Rattle.set_words.specs.Growth.{Grown, Settled, grown_none, grown_then}

-- ---- one round, a production a turn

-- s has grown to r over the first k of the productions
pub record Forward (At : ℕ → (ℕ → Bool) → Type 0) (count k s r : ℕ) : Type 0 where
  pub inside : k ≤ count
  pub grown : Grown (Within At 0 count) (Within At 0 k) s r

-- s has grown to r over the productions from k on
pub record Backward (At : ℕ → (ℕ → Bool) → Type 0) (count k s r : ℕ) : Type 0 where
  pub inside : k ≤ count
  pub grown : Grown (Within At 0 count) (Within At k count) s r

module _ {At : ℕ → (ℕ → Bool) → Type 0} {count : ℕ} where
  pub forward_start : (s : ℕ) → Forward At count 0 s s
  forward_start s = record { inside = omega arith; grown = grown_none s (within_none 0 0 (omega arith)) }

  pub forward_turn : {k s r q : ℕ} → k < count → Forward At count k s r → Grown (Within At 0 count) (At k) r q → Forward At count (k + 1) s q
  forward_turn {k} {s} {r} {q} l f g = record { inside = omega arith; grown = grown_then s r q f.grown g (within_after 0 k) }

  pub forward_end : {k s r : ℕ} → count ≤ k → Forward At count k s r → Grown (Within At 0 count) (Within At 0 count) s r
  forward_end {k} l f = let e : k ≡ count = omega arith in rw e at f.grown

  pub backward_start : (s : ℕ) → Backward At count count s s
  backward_start s = record { inside = omega arith; grown = grown_none s (within_none count count (omega arith)) }

  pub backward_turn : {k s r q : ℕ} → Backward At count k s r → Grown (Within At 0 count) (At (k - 1)) r q → Backward At count (k - 1) s q
  backward_turn {k} {s} {r} {q} f g = record { inside = omega arith; grown = grown_then s r q f.grown g (within_before k count) }

  pub backward_end : {k s r : ℕ} → k ≤ 0 → Backward At count k s r → Grown (Within At 0 count) (Within At 0 count) s r
  backward_end {k} l f = let e : k ≡ 0 = omega arith in rw e at f.grown

-- ---- round after round

-- r is on the way from s to the least closed word above it
pub record Rising (C : (ℕ → Bool) → Type 0) (s r : ℕ) : Type 0 where
  pub word : r < 2 ^ 64
  pub keeps : Inside (members s) (members r)
  pub least : (see : ℕ → Bool) → C see → Inside (members s) see → Inside (members r) see

pub rising_start : {C : (ℕ → Bool) → Type 0} (s : ℕ) → s < 2 ^ 64 → Rising C s s
rising_start s l = record { word = l; keeps = λ n t. t; least = λ see c k. k }

-- a round from r to q
module _ {C : (ℕ → Bool) → Type 0} {s r q : ℕ} (a : Rising C s r) (b : Grown C C r q) where
  pub rising_on : q < 2 ^ 64 → Rising C s q
  rising_on l = record { word = l; keeps = λ n t. b.keeps n (a.keeps n t); least = λ see c k. b.sound see c (a.least see c k) }

  -- it changes nothing
  pub settled : q ≡ r → Settled C s r
  settled e = record { keeps = a.keeps; closed = b.stuck e; least = a.least }

  -- what it leaves is closed for another reason
  pub settled_soon : C (members q) → Settled C s q
  settled_soon c = record { keeps = λ n t. b.keeps n (a.keeps n t); closed = c; least = λ see d k. b.sound see d (a.least see d k) }

-- less is left after two rounds, the second of which changes something
pub rounds_less : {C D : (ℕ → Bool) → Type 0} {r q t : ℕ} → Grown C C r q → Grown D D q t → (t ≡ q → ⊥) → t < 2 ^ 64 → 2 ^ 64 - t < 2 ^ 64 - r
rounds_less b c n l = omega (arith, b.grows, c.grows, n)
