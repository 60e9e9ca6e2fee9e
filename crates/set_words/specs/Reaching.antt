-- The steps of reaching.
use Rattle.std.specs.Prelude.{ℕ, ◌-◌, ◌^◌, ◌≤◌, ◌<◌, ◌≡◌, Bool, true, false, ◌||◌, List, [], ◌∷◌}
use Rattle.std.proofs.Common.{zero-le, sym, ap, ◌∙◌, arith, lit<}
use Rattle.std.proofs.Math.Bool.{or-false, or_assoc}
use Rattle.std.specs.Int.Bits.{bit_or}
use Rattle.meaning.specs.Base.{any}
use Rattle.meaning.specs.Grammar.{Symbol, nonterminal_base}
use Rattle.meaning.specs.Sets.{singleton, end_number}
use Rattle.meaning.specs.Table.{symbol_of}
use Rattle.theory_base.specs.Members.{true→T}
use Rattle.token_set.specs.SetBits.{set_of, set_end}
use Rattle.outline.specs.Images.{left_at, symbol_terminal, symbol_nonterminal, symbol_bytes}
use Rattle.theory_sets.specs.TokenSets.{single_is}
use Rattle.set_words.specs.Views.{members, Within, symbol_bit, right_by, ReachAt}
use Rattle.set_words.specs.Growth.{Grown, grown_none, grown_or, or_is, none_in}

-- the word of one symbol
pub token_bit : (s n : ℕ) → s < nonterminal_base → members (2 ^ end_number) n ≡ symbol_bit n (symbol_of s)
token_bit s n h = rw set_end (single_is end_number n (lit< tt)) ∙ sym (ap (symbol_bit n) (symbol_terminal s h))

pub nonterminal_bit : (s x n : ℕ) → nonterminal_base ≤ s → s < symbol_bytes → set_of x ≡ singleton (s - nonterminal_base) → members x n ≡ symbol_bit n (symbol_of s)
nonterminal_bit s x n h l e = rw e (single_is (s - nonterminal_base) n (omega arith)) ∙ sym (ap (symbol_bit n) (symbol_nonterminal s h))

-- ---- a right side, symbol by symbol: what is gathered, or still to come
pub record Gathered (f : ℕ → Symbol → Bool) (xs : List Symbol) (out : ℕ) (rest : List Symbol) : Type 0 where
  pub is : (n : ℕ) → any (f n) xs ≡ (members out n || any (f n) rest)

module _ (f : ℕ → Symbol → Bool) (xs : List Symbol) where
  pub gathered_start : Gathered f xs 0 xs
  gathered_start = record { is = λ n. sym (ap (λ (b : Bool). b || any (f n) xs) (none_in n)) }

  pub gathered_next : (out x : ℕ) (s : Symbol) (ys rest : List Symbol) → Gathered f xs out ys → ys ≡ s ∷ rest → ((n : ℕ) → members x n ≡ f n s) → Gathered f xs (bit_or out x) rest
  gathered_next out x s ys rest g e one =
      record { is = λ n. g.is n ∙ ap (λ (l : List Symbol). members out n || any (f n) l) e ∙ sym (ap (λ (b : Bool). b || any (f n) rest) (or_is out x n ∙ ap (λ (b : Bool). members out n || b) (one n)) ∙ or_assoc (members out n) (f n s) (any (f n) rest)) }

  pub gathered_end : (out : ℕ) (ys : List Symbol) → Gathered f xs out ys → ys ≡ [] → (n : ℕ) → members out n ≡ any (f n) xs
  gathered_end out ys g e n = sym (g.is n ∙ ap (λ (l : List Symbol). members out n || any (f n) l) e ∙ or-false (members out n))

module _ (rows : List ℕ) {count : ℕ} (k : ℕ) (lt : k < count) (s : ℕ) where
  abbrev pub Reaches : ℕ → Type 0
  Reaches r = Grown (Within (ReachAt rows) 0 count) (ReachAt rows k) s r

  pub reaches_not : members s (left_at rows k) ≡ false → Reaches s
  reaches_not e = grown_none s (λ t. absurd (rw e at t))

  pub reaches_new : (x : ℕ) → members s (left_at rows k) ≡ true → ((n : ℕ) → members x n ≡ right_by rows k n) → Reaches (bit_or s x)
  reaches_new x e is =
      grown_or s x (λ see c i n t. c.at k zero-le lt (i (left_at rows k) (true→T _ e)) n (rw (is n) at t))
      (λ sub t n a. sub n (rw (is n) a))
