-- What a right side begins with: gathered along it, and spread from front to front.
use Rattle.std.specs.Prelude.{ℕ, ◌+◌, ◌<◌, ◌≡◌, refl, ◌⊎◌, Bool, true, false, ◌&&◌, ◌||◌, List, [], ◌∷◌, T, eqb, get_or, length, replicate}
use Rattle.std.proofs.Common.{zero-le, arith, sym, ap, ◌∙◌, inl, inr, ⊎_elim, eqb→eq}
use Rattle.std.proofs.Math.Decide.{dec_lt}
use Rattle.std.proofs.Math.Bool.{or-false, or_assoc}
use Rattle.std.specs.Int.Bits.{bit_or}
use Rattle.std.proofs.Math.Dec.{eqb_refl}
use Rattle.meaning.specs.Limits.{nonterminals_limit}
use Rattle.meaning.specs.Grammar.{Symbol, terminal, nonterminal}
use Rattle.meaning.specs.Sets.{has, singleton}
use Rattle.theory_base.specs.Members.{and, both, or_cases, or_left, or_right}
use Rattle.token_set.specs.SetBits.{set_of}
use Rattle.outline.specs.Images.{left_at, right_at}
use Rattle.set_words.specs.Views.{members, sees, opens, opens_more, WithinAll, FrontAt, LeadAt, heads, leading, Below}
use Rattle.set_words.specs.Growth.{or_is, none_in}
use Rattle.theory_sets.specs.TokenSets.{single_is}
use Rattle.analysis.specs.Tables.{Added, Short, SettledTable, zeros_none}
use Rattle.analysis.specs.Spreading.{Carried, Spread}

module _ (gone : ℕ → Bool) (t : List ℕ) (after : ℕ) where
  abbrev pub opens_by : ℕ → List Symbol → Bool
  opens_by u xs = opens true gone (sees t u) u (members after u) xs

  -- what is gathered, or still to come
  pub record Scanned (xs : List Symbol) (out : ℕ) (rest : List Symbol) : Type 0 where
    pub is : (u : ℕ) → opens_by u xs ≡ (members out u || opens_by u rest)

  module _ (xs : List Symbol) where
    pub scan_start : Scanned xs 0 xs
    scan_start = record { is = λ u. sym (ap (λ (x : Bool). x || opens_by u xs) (none_in u)) }

    module _ (out : ℕ) (ys : List Symbol) (g : Scanned xs out ys) where
      come : (u : ℕ) (zs : List Symbol) → ys ≡ zs → opens_by u xs ≡ (members out u || opens_by u zs)
      come u zs e = g.is u ∙ ap (λ (l : List Symbol). members out u || opens_by u l) e

      with : (u x : ℕ) (rest : Bool) → (members (bit_or out x) u || rest) ≡ (members out u || (members x u || rest))
      with u x rest = ap (λ (y : Bool). y || rest) (or_is out x u) ∙ or_assoc (members out u) (members x u) rest

      pub scan_end : ys ≡ [] → (u : ℕ) → members (bit_or out after) u ≡ opens_by u xs
      scan_end e u = or_is out after u ∙ sym (come u [] e)

      module _ (rest : List Symbol) where
        pub scan_token : (s x : ℕ) → ys ≡ terminal s ∷ rest → set_of x ≡ singleton s → (u : ℕ) → members (bit_or out x) u ≡ opens_by u xs
        scan_token s x e one u = or_is out x u ∙ ap (λ (l : List Bool). members out u || has l u) one ∙ sym (come u (terminal s ∷ rest) e)

        pub scan_next : (n : ℕ) → ys ≡ nonterminal n ∷ rest → gone n ≡ true → Scanned xs (bit_or out (get_or t n 0)) rest
        scan_next n e c = record { is = λ u. come u (nonterminal n ∷ rest) e ∙ ap (λ (y : Bool). members out u || (sees t u n || (y && opens_by u rest))) c ∙ sym (with u (get_or t n 0) (opens_by u rest)) }

        pub scan_stop : (n : ℕ) → ys ≡ nonterminal n ∷ rest → gone n ≡ false → (u : ℕ) → members (bit_or out (get_or t n 0)) u ≡ opens_by u xs
        scan_stop n e c u = or_is out (get_or t n 0) u ∙ sym (come u (nonterminal n ∷ rest) e ∙ ap (λ (y : Bool). members out u || (sees t u n || (y && opens_by u rest))) c ∙ ap (λ (y : Bool). members out u || y) (or-false (sees t u n)))

-- ---- tokens and nonterminals at a front
module _ (b : Bool) (gone see : ℕ → Bool) (u : ℕ) where
  -- what a string begins with is a token at its front, or comes from a nonterminal there
  abbrev pub Both : List Symbol → Type 0
  Both xs = T (opens b gone (λ m. false) u false xs) ⊎ ((m : ℕ) × T (heads gone m xs) × T (see m))

  pub opens_cases : (xs : List Symbol) → T (opens b gone see u false xs) → Both xs
  opens_cases [] t = absurd t
  opens_cases (terminal s ∷ xs) t = inl t
  opens_cases (nonterminal n ∷ xs) t = go (or_cases (see n) (gone n && opens b gone see u false xs) t) (opens_cases xs)
    where
      behind : T (gone n) → Both xs → Both (nonterminal n ∷ xs)
      behind g (inl h) = inl (and (gone n) (opens b gone (λ m. false) u false xs) g h)
      behind g (inr w) = inr (w.0, or_right (eqb n w.0) (gone n && heads gone w.0 xs) (and (gone n) (heads gone w.0 xs) g w.1), w.2)

      go : T (see n) ⊎ T (gone n && opens b gone see u false xs) → (T (opens b gone see u false xs) → Both xs) → Both (nonterminal n ∷ xs)
      go (inl h) k = inr (n, or_left (eqb n n) (gone n && heads gone n xs) (eqb_refl n), h)
      go (inr h) k = let w = both (gone n) (opens b gone see u false xs) h in behind w.0 (k w.1)

  pub opens_head : (m : ℕ) (xs : List Symbol) → T (heads gone m xs) → T (see m) → T (opens b gone see u false xs)
  opens_head m [] t s = absurd t
  opens_head m (terminal q ∷ xs) t s = absurd t
  opens_head m (nonterminal n ∷ xs) t s = go (or_cases (eqb n m) (gone n && heads gone m xs) t) (opens_head m xs)
    where
      go : T (eqb n m) ⊎ T (gone n && heads gone m xs) → (T (heads gone m xs) → T (see m) → T (opens b gone see u false xs)) → T (see n || (gone n && opens b gone see u false xs))
      go (inl h) k = or_left (see n) (gone n && opens b gone see u false xs) (rw (eqb→eq n m h) s)
      go (inr h) k = let w = both (gone n) (heads gone m xs) h in or_right (see n) (gone n && opens b gone see u false xs) (and (gone n) (opens b gone see u false xs) w.0 (k w.1 s))

-- with no tokens nothing but nonterminals is there
pub opens_silent : (gone : ℕ → Bool) (u : ℕ) (xs : List Symbol) → T (opens false gone (λ m. false) u false xs) → ⊥
opens_silent gone u [] t = t
opens_silent gone u (terminal s ∷ xs) t = t
opens_silent gone u (nonterminal n ∷ xs) t = opens_silent gone u xs (both (gone n) (opens false gone (λ m. false) u false xs) t).1

-- the words of both for a string
pub record FrontOf (gone : ℕ → Bool) (xs : List Symbol) (token nonterminals : ℕ) : Type 0 where
  pub tokens : (u : ℕ) → members token u ≡ leading gone u xs
  pub firsts : (n : ℕ) → members nonterminals n ≡ heads gone n xs

-- the nonterminals gathered so far, and what is still to come
pub record Heading (gone : ℕ → Bool) (xs : List Symbol) (out : ℕ) (rest : List Symbol) : Type 0 where
  pub firsts : (n : ℕ) → heads gone n xs ≡ (members out n || heads gone n rest)
  pub tokens : (u : ℕ) → leading gone u xs ≡ leading gone u rest

module _ (gone : ℕ → Bool) (xs : List Symbol) where
  pub heading_start : Heading gone xs 0 xs
  heading_start = record { firsts = λ n. sym (ap (λ (x : Bool). x || heads gone n xs) (none_in n)); tokens = λ u. refl }

  module _ (out : ℕ) (ys : List Symbol) (g : Heading gone xs out ys) where
    first_by : (n : ℕ) (zs : List Symbol) → ys ≡ zs → heads gone n xs ≡ (members out n || heads gone n zs)
    first_by n zs e = g.firsts n ∙ ap (λ (l : List Symbol). members out n || heads gone n l) e

    token_by : (u : ℕ) (zs : List Symbol) → ys ≡ zs → leading gone u xs ≡ leading gone u zs
    token_by u zs e = g.tokens u ∙ ap (λ (l : List Symbol). leading gone u l) e

    pub heading_end : ys ≡ [] → FrontOf gone xs 0 out
    heading_end e = record { tokens = λ u. none_in u ∙ sym (token_by u [] e); firsts = λ n. sym (first_by n [] e ∙ or-false (members out n)) }

    module _ (rest : List Symbol) where
      pub heading_token : (s x : ℕ) → ys ≡ terminal s ∷ rest → set_of x ≡ singleton s → FrontOf gone xs x out
      heading_token s x e one = record { tokens = λ u. ap (λ (l : List Bool). has l u) one ∙ sym (token_by u (terminal s ∷ rest) e); firsts = λ n. sym (first_by n (terminal s ∷ rest) e ∙ or-false (members out n)) }

      module _ (m x : ℕ) (e : ys ≡ nonterminal m ∷ rest) (small : m < 64) (one : set_of x ≡ singleton m) where
        joined : (n : ℕ) → members (bit_or out x) n ≡ (members out n || eqb m n)
        joined n = or_is out x n ∙ ap (λ (b : Bool). members out n || b) (ap (λ (l : List Bool). has l n) one ∙ single_is m n small)

        pub heading_next : gone m ≡ true → Heading gone xs (bit_or out x) rest
        heading_next c =
            record {
              firsts = λ n. first_by n (nonterminal m ∷ rest) e ∙ ap (λ (y : Bool). members out n || (eqb m n || (y && heads gone n rest))) c ∙ sym (ap (λ (y : Bool). y || heads gone n rest) (joined n) ∙ or_assoc (members out n) (eqb m n) (heads gone n rest));
              tokens = λ u. token_by u (nonterminal m ∷ rest) e ∙ ap (λ (y : Bool). y && leading gone u rest) c;
            }

        pub heading_stop : gone m ≡ false → FrontOf gone xs 0 (bit_or out x)
        heading_stop c =
            record {
              tokens = λ u. none_in u ∙ sym (token_by u (nonterminal m ∷ rest) e ∙ ap (λ (y : Bool). y && leading gone u rest) c);
              firsts = λ n. joined n ∙ sym (first_by n (nonterminal m ∷ rest) e ∙ ap (λ (y : Bool). members out n || (eqb m n || (y && heads gone n rest))) c ∙ ap (λ (y : Bool). members out n || y) (or-false (eqb m n)));
            }

-- ---- tables gathered by left sides: entry a has u where f p u for one of the first k productions, with left side a
pub record Gathers (f : ℕ → ℕ → Bool) (rows : List ℕ) (k : ℕ) (t : List ℕ) : Type 0 where
  pub size : length t ≡ nonterminals_limit
  pub into : (p u : ℕ) → p < k → T (f p u) → T (sees t u (left_at rows p))
  pub outof : (a u : ℕ) → T (sees t u a) → (p : ℕ) × (p < k) × (left_at rows p ≡ a) × T (f p u)

module _ (f : ℕ → ℕ → Bool) (rows : List ℕ) where
  pub gathers_start : Gathers f rows 0 (replicate nonterminals_limit 0)
  gathers_start = record { size = refl; into = λ p u l. absurd (omega arith); outof = λ a u h. absurd (zeros_none nonterminals_limit u a h) }

  pub gathers_next : (k add : ℕ) (t r : List ℕ) → Gathers f rows k t → Added t (nonterminal (left_at rows k)) add r → ((u : ℕ) → members add u ≡ f k u) → Gathers f rows (k + 1) r
  gathers_next k add t r g a is = record { size = a.size ∙ g.size; into = λ p u l h. in_next p u l h (dec_lt p k); outof = λ b u h. ⊎_elim (before b u) (here b u) (a.only u b h) }
    where
      at : (p u : ℕ) → p ≡ k → T (f p u) → T (sees r u (left_at rows p))
      at p u e h = rw e (a.adds (left_at rows k) refl u (rw (is u, ← e) h))

      in_next : (p u : ℕ) → p < k + 1 → T (f p u) → Dec (p < k) → T (sees r u (left_at rows p))
      in_next p u l h (yes m) = a.keeps u (left_at rows p) (g.into p u m h)
      in_next p u l h (no m) = at p u (omega arith) h

      before : (b u : ℕ) → T (sees t u b) → (p : ℕ) × (p < k + 1) × (left_at rows p ≡ b) × T (f p u)
      before b u h = let w = g.outof b u h in (w.0, omega (arith, w.1), w.2, w.3)

      here : (b u : ℕ) → (nonterminal (left_at rows k) ≡ nonterminal b) × T (members add u) → (p : ℕ) × (p < k + 1) × (left_at rows p ≡ b) × T (f p u)
      here b u w = let q = w.0 in let e : left_at rows k ≡ b = cc in (k, omega arith, e, rw (is u) at w.1)

  pub gathers_short : (n count : ℕ) (t : List ℕ) → Below n rows count → Gathers f rows count t → Short n t
  gathers_short n count t b g = record { beyond = λ a u l h. let w = g.outof a u h in let e = w.2 in absurd (omega (arith, b.lefts w.0 w.1)) }

-- the nonterminals and the tokens at the front of production p
abbrev pub heads_by : (ℕ → Bool) → List ℕ → ℕ → ℕ → Bool
heads_by gone rows p n = heads gone n (right_at rows p)

abbrev pub leading_by : (ℕ → Bool) → List ℕ → ℕ → ℕ → Bool
leading_by gone rows p u = leading gone u (right_at rows p)

-- ---- spread along these edges they are FIRST, and the edges themselves say what leads where
module _ (gone : ℕ → Bool) (rows : List ℕ) (count : ℕ) (edges : List ℕ) (ge : Gathers (heads_by gone rows) rows count edges) where
  pub first_settled : (own first : List ℕ) → Gathers (leading_by gone rows) rows count own → Spread edges own first → SettledTable (WithinAll (FrontAt true gone rows) 0 count) (replicate nonterminals_limit 0) first
  first_settled own first go sp = record { keeps = λ u n h. absurd (zeros_none nonterminals_limit u n h); closed = λ u. record { at = λ p _ l t. shut u p l (opens_cases true gone (sees first u) u (right_at rows p) t) }; least = λ u see c _. sp.least u see (carried u see c) }
    where
      shut : (u p : ℕ) → p < count → T (leading gone u (right_at rows p)) ⊎ ((m : ℕ) × T (heads gone m (right_at rows p)) × T (sees first u m)) → T (sees first u (left_at rows p))
      shut u p l (inl h) = (sp.closed u).own (left_at rows p) (go.into p u l h)
      shut u p l (inr w) = (sp.closed u).edge (left_at rows p) w.0 (ge.into p w.0 l w.1) w.2

      carried : (u : ℕ) (see : ℕ → Bool) → WithinAll (FrontAt true gone rows) 0 count u see → Carried edges own u see
      carried u see c =
          record {
            own = λ a h. let w = go.outof a u h in rw w.2 at (c.at w.0 zero-le w.1 (opens_more true gone (λ m. false) see u (λ n t. absurd t) false false (λ t. t) (right_at rows w.0) w.3));
            edge = λ a b h s. let w = ge.outof a b h in rw w.2 at (c.at w.0 zero-le w.1 (opens_head true gone see u b (right_at rows w.0) w.3 s));
          }

  pub lead_settled : (led : List ℕ) → Spread edges edges led → SettledTable (WithinAll (LeadAt gone rows) 0 count) (replicate nonterminals_limit 0) led
  lead_settled led sp = record { keeps = λ u n h. absurd (zeros_none nonterminals_limit u n h); closed = λ u. record { at = λ p _ l t. shut u p l (opens_cases false gone (λ m. eqb m u || sees led u m) u (right_at rows p) t) }; least = λ u see c _. sp.least u see (carried u see c) }
    where
      on : (u p m : ℕ) → p < count → T (heads gone m (right_at rows p)) → T (eqb m u) ⊎ T (sees led u m) → T (sees led u (left_at rows p))
      on u p m l h (inl e) = (sp.closed u).own (left_at rows p) (ge.into p u l (rw (eqb→eq m u e) at h))
      on u p m l h (inr s) = (sp.closed u).edge (left_at rows p) m (ge.into p m l h) s

      shut : (u p : ℕ) → p < count → T (opens false gone (λ m. false) u false (right_at rows p)) ⊎ ((m : ℕ) × T (heads gone m (right_at rows p)) × T (eqb m u || sees led u m)) → T (sees led u (left_at rows p))
      shut u p l (inl h) = absurd (opens_silent gone u (right_at rows p) h)
      shut u p l (inr w) = on u p w.0 l w.1 (or_cases (eqb w.0 u) (sees led u w.0) w.2)

      carried : (u : ℕ) (see : ℕ → Bool) → WithinAll (LeadAt gone rows) 0 count u see → Carried edges edges u see
      carried u see c =
          record {
            own = λ a h. let w = ge.outof a u h in rw w.2 at (c.at w.0 zero-le w.1 (opens_head false gone (λ m. eqb m u || see m) u u (right_at rows w.0) w.3 (or_left (eqb u u) (see u) (eqb_refl u))));
            edge = λ a b h s. let w = ge.outof a b h in rw w.2 at (c.at w.0 zero-le w.1 (opens_head false gone (λ m. eqb m u || see m) u b (right_at rows w.0) w.3 (or_right (eqb b u) (see b) s)));
          }
