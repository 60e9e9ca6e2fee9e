-- What the analyses say, over the rows of an image. A view has a truth value for each nonterminal.
use Rattle.std.specs.Prelude.{ℕ, ◌+◌, ◌-◌, ◌≤◌, ◌<◌, ◌≡◌, ◌⊎◌, Bool, true, false, ◌&&◌, ◌||◌, List, [], ◌∷◌, T, eqb, get_or, drop}
use Rattle.std.proofs.Math.Decide.{dec_lt}
use Rattle.std.proofs.Common.{arith, sym, ap, ◌∙◌, inl, inr}
use Rattle.meaning.specs.Base.{all, any}
use Rattle.meaning.specs.Grammar.{Symbol, terminal, nonterminal, nonterminal_base}
use Rattle.meaning.specs.Table.{symbol_of}
use Rattle.meaning.specs.Sets.{has, singleton, end_number}
use Rattle.token_set.specs.SetBits.{set_of}
use Rattle.outline.specs.Images.{Image, left_at, size_at, byte_at, right_at, right_cons, symbol_terminal, symbol_nonterminal, symbol_bytes}
use Rattle.theory_base.specs.Members.{and, both, or_cases, or_left, or_right}

-- the view of a word
abbrev pub members : ℕ → ℕ → Bool
members w n = has (set_of w) n

-- the view of a table of words for token u
abbrev pub sees : List ℕ → ℕ → ℕ → Bool
sees t u n = members (get_or t n 0) u

-- all that passes f passes h
abbrev pub Inside : (ℕ → Bool) → (ℕ → Bool) → Type 0
Inside f h = (n : ℕ) → T (f n) → T (h n)

-- productions i to j - 1 bear the view out
pub record Within (At : ℕ → (ℕ → Bool) → Type 0) (i j : ℕ) (see : ℕ → Bool) : Type 0 where
  pub at : (p : ℕ) → i ≤ p → p < j → At p see

module _ {At : ℕ → (ℕ → Bool) → Type 0} {see : ℕ → Bool} where
  pub within_none : (i j : ℕ) → j ≤ i → Within At i j see
  within_none i j h = record { at = λ p l m. absurd (omega arith) }

  pub within_after : (i j : ℕ) → Within At i j see → At j see → Within At i (j + 1) see
  within_after i j k a = record { at = λ p l m. go p l (dec_lt p j) (λ (e : p ≡ j). rw e a) (omega arith) }
    where
      go : (p : ℕ) → i ≤ p → Dec (p < j) → (p ≡ j → At p see) → p ≤ j → At p see
      go p l (yes h) f m = k.at p l h
      go p l (no h) f m = f (omega arith)

  pub within_before : (i j : ℕ) → Within At i j see → At (i - 1) see → Within At (i - 1) j see
  within_before i j k a = record { at = λ p l m. go p m (dec_lt p i) (λ (e : p ≡ i - 1). rw e a) l }
    where
      go : (p : ℕ) → p < j → Dec (p < i) → (p ≡ i - 1 → At p see) → i - 1 ≤ p → At p see
      go p m (yes h) f l = f (omega arith)
      go p m (no h) f l = k.at p (omega arith) m

-- the same for the view of each token
abbrev pub WithinAll : (ℕ → ℕ → (ℕ → Bool) → Type 0) → ℕ → ℕ → ℕ → (ℕ → Bool) → Type 0
WithinAll At i j u = Within (At u) i j

-- production p is one of those of an image
pub record Imaged (rows : List ℕ) (p : ℕ) : Type 0 where
  pub count : ℕ
  pub image : Image rows count
  pub listed : p < count

-- the symbol at place i of its right side, by the byte s that is read there
module _ {rows : List ℕ} {p : ℕ} (row : Imaged rows p) (i s : ℕ) (h : i < size_at rows p) (e : s ≡ byte_at rows p i) where
  pub next_small : s < symbol_bytes
  next_small = rw e (row.image.symbols p i row.listed h)

  pub next_token : s < nonterminal_base → drop i (right_at rows p) ≡ terminal s ∷ drop (i + 1) (right_at rows p)
  next_token l = right_cons row.image p row.listed i h ∙ ap (λ (x : Symbol). x ∷ drop (i + 1) (right_at rows p)) (ap symbol_of (sym e) ∙ symbol_terminal s l)

  pub next_nonterminal : nonterminal_base ≤ s → drop i (right_at rows p) ≡ nonterminal (s - nonterminal_base) ∷ drop (i + 1) (right_at rows p)
  next_nonterminal l = right_cons row.image p row.listed i h ∙ ap (λ (x : Symbol). x ∷ drop (i + 1) (right_at rows p)) (ap symbol_of (sym e) ∙ symbol_nonterminal s l)

-- ---- nonterminals whose symbols are all in: nullable, and with the tokens productive
abbrev pub fit : Bool → (ℕ → Bool) → Symbol → Bool
fit b see (terminal t) = b
fit b see (nonterminal n) = see n

abbrev pub ClosedAt : Bool → List ℕ → ℕ → (ℕ → Bool) → Type 0
ClosedAt b rows p see = T (all (fit b see) (right_at rows p)) → T (see (left_at rows p))

pub fit_more : (b : Bool) (f h : ℕ → Bool) → Inside f h → (x : Symbol) → T (fit b f x) → T (fit b h x)
fit_more b f h k (terminal t) u = u
fit_more b f h k (nonterminal n) u = k n u

-- ---- the bits of a right side as one word: a nonterminal has its own, tokens have that of the end
abbrev pub symbol_bit : ℕ → Symbol → Bool
symbol_bit n (terminal t) = eqb end_number n
symbol_bit n (nonterminal m) = eqb m n

abbrev pub right_by : List ℕ → ℕ → ℕ → Bool
right_by rows p n = any (symbol_bit n) (right_at rows p)

-- ---- nonterminals on the right of one that is in: reachable
abbrev pub ReachAt : List ℕ → ℕ → (ℕ → Bool) → Type 0
ReachAt rows p see = T (see (left_at rows p)) → (n : ℕ) → T (right_by rows p n) → T (see n)

-- ---- what a string begins with, and what comes after it where it derives nothing.
-- `gone` is the view of what derives nothing, `see` that of what begins with u; w says whether u comes after, b whether tokens count.
abbrev pub turn : Bool → (ℕ → Bool) → (ℕ → Bool) → ℕ → Symbol → Bool → Bool
turn b gone see u (terminal t) rest = b && has (singleton t) u
turn b gone see u (nonterminal n) rest = see n || (gone n && rest)

abbrev pub opens : Bool → (ℕ → Bool) → (ℕ → Bool) → ℕ → Bool → List Symbol → Bool
opens b gone see u w [] = w
opens b gone see u w (x ∷ xs) = turn b gone see u x (opens b gone see u w xs)

turn_more : (b : Bool) (gone f h : ℕ → Bool) (u : ℕ) → Inside f h → (x : Symbol) (v w : Bool) → (T v → T w) → T (turn b gone f u x v) → T (turn b gone h u x w)
turn_more b gone f h u k (terminal t) v w j s = s
turn_more b gone f h u k (nonterminal n) v w j s = go (or_cases (f n) (gone n && v) s)
  where
    go : T (f n) ⊎ T (gone n && v) → T (h n || (gone n && w))
    go (inl q) = or_left (h n) (gone n && w) (k n q)
    go (inr q) = or_right (h n) (gone n && w) (and (gone n) w (both (gone n) v q).0 (j (both (gone n) v q).1))

pub opens_more : (b : Bool) (gone f h : ℕ → Bool) (u : ℕ) → Inside f h → (v w : Bool) → (T v → T w) → (xs : List Symbol) → T (opens b gone f u v xs) → T (opens b gone h u w xs)
opens_more b gone f h u k v w j [] s = j s
opens_more b gone f h u k v w j (x ∷ xs) s = turn_more b gone f h u k x (opens b gone f u v xs) (opens b gone h u w xs) (opens_more b gone f h u k v w j xs) s

-- FIRST, and with no tokens the nonterminals at the front: what the right side begins with, the left side does
abbrev pub FrontAt : Bool → (ℕ → Bool) → List ℕ → ℕ → ℕ → (ℕ → Bool) → Type 0
FrontAt b gone rows u p see = T (opens b gone see u false (right_at rows p)) → T (see (left_at rows p))

-- what stands at the front of a string behind symbols that derive nothing: nonterminal n, or token u
abbrev pub heads : (ℕ → Bool) → ℕ → List Symbol → Bool
heads gone n xs = opens false gone (λ m. eqb m n) n false xs

abbrev pub leading : (ℕ → Bool) → ℕ → List Symbol → Bool
leading gone u xs = opens true gone (λ m. false) u false xs

-- left recursion: where u, or one that leads to u, stands at the front of the right side, the left side leads to u
abbrev pub LeadAt : (ℕ → Bool) → List ℕ → ℕ → ℕ → (ℕ → Bool) → Type 0
LeadAt gone rows u p see = T (opens false gone (λ m. eqb m u || see m) u false (right_at rows p)) → T (see (left_at rows p))

-- the numbers of the nonterminals are below n
pub record Below (n : ℕ) (rows : List ℕ) (count : ℕ) : Type 0 where
  pub lefts : (p : ℕ) → p < count → left_at rows p < n
  pub rights : (p j m : ℕ) (rest : List Symbol) → p < count → drop j (right_at rows p) ≡ nonterminal m ∷ rest → m < n
