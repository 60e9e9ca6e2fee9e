-- The steps of closing: nullable and productive. The word of a right side lies in the set, with the bit of the tokens where they may stand.
use Rattle.std.specs.Prelude.{ℕ, suc, ◌-◌, ◌^◌, ◌<◌, ◌≡◌, Bool, true, false, List, [], ◌∷◌, T, ltb, length, get_or}
use Rattle.std.proofs.Common.{zero-le, suc-le-suc, arith, sym, ⊎_elim, eqb→eq, lit<, ltb→lt, lt→ltb}
use Rattle.std.proofs.Math.Decide.{dec_lt}
use Rattle.std.specs.Int.Bits.{bit_or}
use Rattle.std.proofs.Math.Dec.{eqb_refl}
use Rattle.meaning.specs.Limits.{nonterminals_limit}
use Rattle.meaning.specs.Base.{all, any}
use Rattle.meaning.specs.Grammar.{Symbol, terminal, nonterminal, nonterminal_base}
use Rattle.meaning.specs.Sets.{singleton, end_number}
use Rattle.meaning.specs.Table.{symbol_of}
use Rattle.theory_base.specs.Members.{T→true, and, both, or_cases, or_left, or_right}
use Rattle.theory_sets.specs.Tests.{all_map}
use Rattle.theory_sets.specs.TokenSets.{single_has, single_only}
use Rattle.token_set.specs.SetBits.{set_of, set_end}
use Rattle.outline.specs.Images.{Image, left_at, right_at, byte_at, size_at, right_length, right_at_lem, symbol_terminal, symbol_nonterminal, symbol_bytes}
use Rattle.set_words.specs.Views.{members, Inside, Within, fit, fit_more, symbol_bit, right_by, ClosedAt}
use Rattle.set_words.specs.Growth.{Grown, grown_none, grown_or, or_is, none_in}
use Rattle.analysis.specs.Rounds.{Rising}

-- only the first 48 numbers are in
pub record Narrow (w : ℕ) : Type 0 where
  pub low : Inside (members w) (λ n. ltb n nonterminals_limit)

abbrev low_symbol : Symbol → Bool
low_symbol (terminal t) = true
low_symbol (nonterminal m) = ltb m nonterminals_limit

all_by : (f : Symbol → Bool) (d : Symbol) (xs : List Symbol) → ((i : ℕ) → i < length xs → T (f (get_or xs i d))) → T (all f xs)
all_by f d [] h = tt
all_by f d (x ∷ xs) h = and (f x) (all f xs) (h 0 (suc-le-suc zero-le)) (all_by f d xs (λ i l. h (suc i) (suc-le-suc l)))

low_right : {rows : List ℕ} {count : ℕ} → Image rows count → (p : ℕ) → p < count → T (all low_symbol (right_at rows p))
low_right {rows} {count} image p lt = all_by low_symbol (symbol_of 0) (right_at rows p) (λ i l. at i (rw (right_length rows count image.room p lt (image.sizes p lt)) at l))
  where
    small : (n : ℕ) → n < symbol_bytes → Dec (n < nonterminal_base) → T (low_symbol (symbol_of n))
    small n l (yes h) = rw (symbol_terminal n h) tt
    small n l (no h) = rw (symbol_nonterminal n (omega arith)) (lt→ltb (n - nonterminal_base) nonterminals_limit (omega arith))

    at : (i : ℕ) → i < size_at rows p → T (low_symbol (get_or (right_at rows p) i (symbol_of 0)))
    at i l = rw (right_at_lem rows count image.room p lt (image.sizes p lt) i l) (small (byte_at rows p i) (image.symbols p i lt l) (dec_lt (byte_at rows p i) nonterminal_base))

-- `known` has what `see` has, and the bit of the end where tokens may stand
pub record Knows (b : Bool) (see known : ℕ → Bool) : Type 0 where
  pub tokens : T b → T (known end_number)
  pub allowed : T (known end_number) → T b
  pub into : Inside see known
  pub outof : (m : ℕ) → m < nonterminals_limit → T (known m) → T (see m)

-- a set with no bit but that of the tokens, and whether it has it
abbrev pub tokens_in : ℕ → Bool
tokens_in w = members w end_number

pub record Free (w : ℕ) : Type 0 where
  pub only : (n : ℕ) → T (members w n) → n ≡ end_number

pub free_none : Free 0
free_none = record { only = λ n t. absurd (rw (none_in n) at t) }

pub free_tokens : Free (2 ^ end_number)
free_tokens = record { only = λ n t. single_only end_number n (rw set_end at t) }

pub tokens_none : tokens_in 0 ≡ false
tokens_none = none_in end_number

pub tokens_in_lem : tokens_in (2 ^ end_number) ≡ true
tokens_in_lem = T→true _ (rw set_end (single_has end_number (lit< tt)))

pub knows : (s w : ℕ) → Narrow s → Free w → Knows (tokens_in w) (members s) (members (bit_or s w))
knows s w low free =
    record {
      tokens = λ t. rw (or_is s w end_number) (or_right (members s end_number) (members w end_number) t);
      allowed = λ t. ⊎_elim (λ h. absurd (low.low end_number h)) (λ h. h) (or_cases (members s end_number) (members w end_number) (rw (or_is s w end_number) at t));
      into = λ n t. rw (or_is s w n) (or_left (members s n) (members w n) t);
      outof = λ m l t. ⊎_elim (λ h. h) (λ h. absurd (let e = free.only m h in omega arith)) (or_cases (members s m) (members w m) (rw (or_is s w m) at t));
    }

-- all symbols of a string are in where its bits are
module _ {b : Bool} {see known : ℕ → Bool} (k : Knows b see known) where
  all_known : (xs : List Symbol) → T (all low_symbol xs) → ((n : ℕ) → T (any (symbol_bit n) xs) → T (known n)) → T (all (fit b see) xs)
  all_known [] low h = tt
  all_known (x ∷ xs) low h =
      let w = both (low_symbol x) (all low_symbol xs) low in
      and (fit b see x) (all (fit b see) xs) (one x w.0 (λ n t. h n (or_left (symbol_bit n x) (any (symbol_bit n) xs) t))) (all_known xs w.1 (λ n t. h n (or_right (symbol_bit n x) (any (symbol_bit n) xs) t)))
    where
      one : (x : Symbol) → T (low_symbol x) → ((n : ℕ) → T (symbol_bit n x) → T (known n)) → T (fit b see x)
      one (terminal t) l f = k.allowed (f end_number (eqb_refl end_number))
      one (nonterminal m) l f = k.outof m (ltb→lt m nonterminals_limit l) (f m (eqb_refl m))

  known_all : (xs : List Symbol) (n : ℕ) → T (all (fit b see) xs) → T (any (symbol_bit n) xs) → T (known n)
  known_all [] n f t = absurd t
  known_all (x ∷ xs) n f t = ⊎_elim (here x (both (fit b see x) (all (fit b see) xs) f).0) (known_all xs n (both (fit b see x) (all (fit b see) xs) f).1) (or_cases (symbol_bit n x) (any (symbol_bit n) xs) t)
    where
      here : (x : Symbol) → T (fit b see x) → T (symbol_bit n x) → T (known n)
      here (terminal s) f e = rw (sym (eqb→eq end_number n e)) (k.tokens f)
      here (nonterminal m) f e = rw (sym (eqb→eq m n e)) (k.into m f)

module _ (b : Bool) {rows : List ℕ} {count : ℕ} (image : Image rows count) (k : ℕ) (lt : k < count) (s known x : ℕ) (knows : Knows b (members s) (members known)) (is : (n : ℕ) → members x n ≡ right_by rows k n) where
  abbrev pub Closes : ℕ → Type 0
  Closes r = Grown (Within (ClosedAt b rows) 0 count) (ClosedAt b rows k) s r

  pub closes_not : (Inside (members x) (members known) → ⊥) → Closes s
  closes_not out = grown_none s (λ t. absurd (out (λ n h. known_all knows (right_at rows k) n t (rw (is n) at h))))

  pub closes_new : (y : ℕ) → Inside (members x) (members known) → set_of y ≡ singleton (left_at rows k) → Closes (bit_or s y)
  closes_new y i one = grown_or s y fine (λ sub t. sub (left_at rows k) (rw one (single_has (left_at rows k) (omega (arith, image.lefts k lt)))))
    where
      fits : T (all (fit b (members s)) (right_at rows k))
      fits = all_known knows (right_at rows k) (low_right image k lt) (λ n t. i n (rw (is n) t))

      fine : (see : ℕ → Bool) → Within (ClosedAt b rows) 0 count see → Inside (members s) see → Inside (members y) see
      fine see c sub n t = rw (single_only (left_at rows k) n (rw one at t)) (c.at k zero-le lt (all_map (fit b (members s)) (fit b see) (fit_more b (members s) see sub) (right_at rows k) fits))

-- left sides are low
module _ (b : Bool) {rows : List ℕ} {count : ℕ} (image : Image rows count) where
  low_closed : Within (ClosedAt b rows) 0 count (λ n. ltb n nonterminals_limit)
  low_closed = record { at = λ p _ l _. lt→ltb (left_at rows p) nonterminals_limit (image.lefts p l) }

  pub narrow_grown : {P : (ℕ → Bool) → Type 0} (s r : ℕ) → Grown (Within (ClosedAt b rows) 0 count) P s r → Narrow s → Narrow r
  narrow_grown s r g w = record { low = g.sound (λ n. ltb n nonterminals_limit) low_closed w.low }

  pub narrow_rising : (s : ℕ) → Rising (Within (ClosedAt b rows) 0 count) 0 s → Narrow s
  narrow_rising s w = record { low = w.least (λ n. ltb n nonterminals_limit) low_closed (λ n t. absurd (rw (none_in n) at t)) }
