-- Sets that spread along edges: where row a of the edges has b, what b has, a has too. The edges are closed one nonterminal after the other
-- (Warshall), and the sets with them.
use Rattle.std.specs.Prelude.{ℕ, ◌+◌, ◌≤◌, ◌<◌, ◌≡◌, refl, ◌⊎◌, Bool, true, false, List, T, length, get_or, set}
use Rattle.std.proofs.Math.Decide.{dec_lt, ℕ_discrete}
use Rattle.std.proofs.Common.{arith, ◌∙◌, inl, inr, ⊎_elim, length-set, get_or-set_same, get_or-set_other}
use Rattle.std.specs.Int.Bits.{bit_or}
use Rattle.set_words.specs.Views.{members, sees, Inside}
use Rattle.set_words.specs.Growth.{or_left, or_right, or_members}
use Rattle.analysis.specs.Tables.{Short}

-- the view has what the sets have, along the edges
pub record Carried (edges sets : List ℕ) (u : ℕ) (see : ℕ → Bool) : Type 0 where
  pub own : Inside (sees sets u) see
  pub edge : (a b : ℕ) → T (sees edges b a) → T (see b) → T (see a)

-- the least table that has what the sets have, along the edges
pub record Spread (edges sets r : List ℕ) : Type 0 where
  pub closed : (u : ℕ) → Carried edges sets u (sees r u)
  pub least : (u : ℕ) (see : ℕ → Bool) → Carried edges sets u see → Inside (sees r u) see

-- On the way there. Edges e and sets t have come from e₀ and t₀; ways that go over nonterminals below k alone are closed.
pub record Closing (e₀ t₀ e t : List ℕ) (k : ℕ) : Type 0 where
  pub keeps : (u : ℕ) → Inside (sees t₀ u) (sees t u)
  pub sound : (u : ℕ) (see : ℕ → Bool) → Carried e₀ t₀ u see → Inside (sees t u) see
  pub over : (a b u : ℕ) → b < k → T (sees e b a) → T (sees t u b) → T (sees t u a)

pub closing_start : (e t : List ℕ) → Closing e t e t 0
closing_start e t = record { keeps = λ u n h. h; sound = λ u see c. c.own; over = λ a b u l. absurd (omega arith) }

-- a way along e is one along the edges that it came from
along : {e₀ e : List ℕ} {k : ℕ} → Closing e₀ e₀ e e k → (see : ℕ → Bool) → ((a b : ℕ) → T (sees e₀ b a) → T (see b) → T (see a)) → (a b : ℕ) → T (sees e b a) → T (see b) → T (see a)
along c see closed a b h s = c.sound b see (record { own = λ n q. closed n b q s; edge = closed }) a h

-- nobody has an edge to k
pub closing_skip : {e₀ t₀ : List ℕ} (e t : List ℕ) (k : ℕ) → ((a : ℕ) → T (sees e k a) → ⊥) → Closing e₀ t₀ e t k → Closing e₀ t₀ e t (k + 1)
closing_skip e t k none c = record { keeps = c.keeps; sound = c.sound; over = λ a b u l h s. go a b u l h s (dec_lt b k) }
  where
    go : (a b u : ℕ) → b < k + 1 → T (sees e b a) → T (sees t u b) → Dec (b < k) → T (sees t u a)
    go a b u l h s (yes m) = c.over a b u m h s
    go a b u l h s (no m) = let q : b ≡ k = omega arith in absurd (none a (rw q at h))

-- rows below i that have an edge to k have got what row k has
pub record Turned (k : ℕ) (e t r : List ℕ) (i : ℕ) : Type 0 where
  pub size : length r ≡ length t
  pub keeps : (u a : ℕ) → T (sees t u a) → T (sees r u a)
  pub adds : (u a : ℕ) → a < i → T (sees e k a) → T (sees t u k) → T (sees r u a)
  pub only : (u a : ℕ) → T (sees r u a) → T (sees t u a) ⊎ (T (sees e k a) × T (sees t u k))
  pub rest : (a : ℕ) → i ≤ a → get_or r a 0 ≡ get_or t a 0

module _ (k : ℕ) (e t : List ℕ) where
  pub turned_start : Turned k e t t 0
  turned_start = record { size = refl; keeps = λ u a h. h; adds = λ u a l. absurd (omega arith); only = λ u a h. inl h; rest = λ a l. refl }

  module _ (r : List ℕ) (i : ℕ) (c : Turned k e t r i) where
    -- row i has no edge to k
    pub turned_skip : members (get_or e i 0) k ≡ false → Turned k e t r (i + 1)
    turned_skip none = record { size = c.size; keeps = c.keeps; adds = λ u a l h s. go u a l h s (dec_lt a i); only = c.only; rest = λ a l. c.rest a (omega arith) }
      where
        go : (u a : ℕ) → a < i + 1 → T (sees e k a) → T (sees t u k) → Dec (a < i) → T (sees r u a)
        go u a l h s (yes m) = c.adds u a m h s
        go u a l h s (no m) = let q : a ≡ i = omega arith in absurd (rw (q, none) at h)

    -- row i has one
    abbrev sum : ℕ
    sum = bit_or (get_or r i 0) (get_or t k 0)

    pub turned_next : i < length t → members (get_or e i 0) k ≡ true → Turned k e t (set r i sum) (i + 1)
    turned_next lt some =
        record {
          size = length-set r i sum ∙ c.size;
          keeps = λ u a h. keep u a h (ℕ_discrete a i);
          adds = λ u a l h s. more u a l h s (ℕ_discrete a i);
          only = λ u a h. back u a h (ℕ_discrete a i);
          rest = λ a l. get_or-set_other r i a sum 0 (omega arith) ∙ c.rest a (omega arith);
        }
      where
        here : get_or (set r i sum) i 0 ≡ sum
        here = get_or-set_same r i sum 0 (rw c.size lt)

        keep : (u a : ℕ) → T (sees t u a) → Dec (a ≡ i) → T (sees (set r i sum) u a)
        keep u a h (yes q) = rw (q, here) (or_left (get_or r i 0) (get_or t k 0) u (c.keeps u i (rw q at h)))
        keep u a h (no q) = rw (get_or-set_other r i a sum 0 q) (c.keeps u a h)

        more : (u a : ℕ) → a < i + 1 → T (sees e k a) → T (sees t u k) → Dec (a ≡ i) → T (sees (set r i sum) u a)
        more u a l h s (yes q) = rw (q, here) (or_right (get_or r i 0) (get_or t k 0) u s)
        more u a l h s (no q) = rw (get_or-set_other r i a sum 0 q) (c.adds u a (omega arith) h s)

        back : (u a : ℕ) → T (sees (set r i sum) u a) → Dec (a ≡ i) → T (sees t u a) ⊎ (T (sees e k a) × T (sees t u k))
        back u a h (yes q) = ⊎_elim (λ o. rw q (c.only u i o)) (λ o. inr (rw (q, some) tt, o)) (or_members (get_or r i 0) (get_or t k 0) u (rw (q, here) at h))
        back u a h (no q) = c.only u a (rw (get_or-set_other r i a sum 0 q) at h)

-- all rows
module _ {e₀ t₀ e t e' t' : List ℕ} (k n : ℕ) (short : Short n e) (ce : Closing e₀ e₀ e e k) (ct : Closing e₀ t₀ e t k) (te : Turned k e e e' n) (tt' : Turned k e t t' n) where
  gets : (u a : ℕ) → T (sees e k a) → T (sees t u k) → T (sees t' u a)
  gets u a h s = go (dec_lt a n)
    where
      go : Dec (a < n) → T (sees t' u a)
      go (yes l) = tt'.adds u a l h s
      go (no l) = absurd (short.beyond a k (omega arith) h)

  -- an edge over k begins with one to k
  to_k : (a : ℕ) → T (sees e' k a) → T (sees e k a)
  to_k a h = ⊎_elim (λ o. o) (λ o. o.0) (te.only k a h)

  at_k : (u : ℕ) → T (sees t' u k) → T (sees t u k)
  at_k u h = ⊎_elim (λ o. o) (λ o. o.1) (tt'.only u k h)

  through : (a b u : ℕ) → b < k → T (sees e b a) ⊎ (T (sees e k a) × T (sees e b k)) → T (sees t u b) ⊎ (T (sees e k b) × T (sees t u k)) → T (sees t' u a)
  through a b u l (inl h) (inl s) = tt'.keeps u a (ct.over a b u l h s)
  through a b u l (inl h) (inr s) = gets u a (ce.over a b k l h s.0) s.1
  through a b u l (inr h) (inl s) = gets u a h.0 (ct.over k b u l h.1 s)
  through a b u l (inr h) (inr s) = gets u a h.0 s.1

  pub closing_next : Closing e₀ t₀ e' t' (k + 1)
  closing_next =
      record {
        keeps = λ u a h. tt'.keeps u a (ct.keeps u a h);
        sound = λ u see c a h. ⊎_elim (ct.sound u see c a) (λ o. along ce see c.edge a k o.0 (ct.sound u see c k o.1)) (tt'.only u a h);
        over = λ a b u l h s. go a b u l h s (dec_lt b k);
      }
    where
      go : (a b u : ℕ) → b < k + 1 → T (sees e' b a) → T (sees t' u b) → Dec (b < k) → T (sees t' u a)
      go a b u l h s (yes m) = through a b u m (te.only b a h) (tt'.only u b s)
      go a b u l h s (no m) =
          let q : b ≡ k = omega arith in
          gets u a (to_k a (rw q at h)) (at_k u (rw q at s))

  pub short_next : Short n t → Short n t'
  short_next st = record { beyond = λ a u l h. ⊎_elim (st.beyond a u l) (λ o. short.beyond a k l o.0) (tt'.only u a h) }

pub closing_done : {e₀ t₀ : List ℕ} (e t : List ℕ) (n : ℕ) → ((u : ℕ) → Inside (sees e₀ u) (sees e u)) → Short n t → Closing e₀ t₀ e t n → Spread e₀ t₀ t
closing_done {e₀} e t n kept short c = record { closed = λ u. record { own = c.keeps u; edge = λ a b h s. go u a b h s (dec_lt b n) }; least = c.sound }
  where
    go : (u a b : ℕ) → T (sees e₀ b a) → T (sees t u b) → Dec (b < n) → T (sees t u a)
    go u a b h s (yes l) = c.over a b u l (kept b a h) s
    go u a b h s (no l) = absurd (short.beyond b u (omega arith) s)

-- ---- the union of the rows below k
pub record United (t : List ℕ) (k r : ℕ) : Type 0 where
  pub among : (a : ℕ) → a < k → Inside (members (get_or t a 0)) (members r)

module _ (t : List ℕ) where
  pub united_start : United t 0 0
  united_start = record { among = λ a l. absurd (omega arith) }

  pub united_next : (k r : ℕ) → United t k r → United t (k + 1) (bit_or r (get_or t k 0))
  united_next k r w = record { among = λ a l u h. go a l u h (dec_lt a k) }
    where
      go : (a : ℕ) → a < k + 1 → (u : ℕ) → T (members (get_or t a 0) u) → Dec (a < k) → T (members (bit_or r (get_or t k 0)) u)
      go a l u h (yes m) = or_left r (get_or t k 0) u (w.among a m u h)
      go a l u h (no m) = let q : a ≡ k = omega arith in or_right r (get_or t k 0) u (rw q at h)

-- ---- the edges and the sets together
pub record Spreading (n used : ℕ) (e₀ s₀ e s : List ℕ) (k : ℕ) : Type 0 where
  pub narrow : Short n e
  pub short : Short n s
  pub among : (a b : ℕ) → T (sees e b a) → T (members used b)
  pub edges : Closing e₀ e₀ e e k
  pub sets : Closing e₀ s₀ e s k

module _ (n used : ℕ) {e₀ s₀ : List ℕ} where
  pub spreading_start : Short n e₀ → Short n s₀ → United e₀ n used → Spreading n used e₀ s₀ e₀ s₀ 0
  spreading_start a b i = record { narrow = a; short = b; among = λ c d h. go c d h (dec_lt c n); edges = closing_start e₀ e₀; sets = closing_start e₀ s₀ }
    where
      go : (c d : ℕ) → T (sees e₀ d c) → Dec (c < n) → T (members used d)
      go c d h (yes l) = i.among c l d h
      go c d h (no l) = absurd (a.beyond c d (omega arith) h)

  module _ (e s : List ℕ) (k : ℕ) (w : Spreading n used e₀ s₀ e s k) where
    pub spreading_skip : members used k ≡ false → Spreading n used e₀ s₀ e s (k + 1)
    spreading_skip none = record { narrow = w.narrow; short = w.short; among = w.among; edges = closing_skip e e k free w.edges; sets = closing_skip e s k free w.sets }
      where
        free : (a : ℕ) → T (sees e k a) → ⊥
        free a h = let y = w.among a k h in rw none at y

    pub spreading_next : (e' s' : List ℕ) → Turned k e e e' n → Turned k e s s' n → Spreading n used e₀ s₀ e' s' (k + 1)
    spreading_next e' s' te ts =
        record {
          narrow = short_next k n w.narrow w.edges w.edges te te w.narrow;
          short = short_next k n w.narrow w.edges w.sets te ts w.short;
          among = λ a b h. ⊎_elim (w.among a b) (λ o. w.among k b o.1) (te.only b a h);
          edges = closing_next k n w.narrow w.edges w.edges te te;
          sets = closing_next k n w.narrow w.edges w.sets te ts;
        }

  pub spreading_edges : (e s : List ℕ) → Spreading n used e₀ s₀ e s n → Spread e₀ e₀ e
  spreading_edges e s w = closing_done e e n w.edges.keeps w.narrow w.edges

  pub spreading_sets : (e s : List ℕ) → Spreading n used e₀ s₀ e s n → Spread e₀ s₀ s
  spreading_sets e s w = closing_done e s n w.edges.keeps w.short w.sets

-- what the code answers: edges e and sets s from e₀ and s₀, where the first n nonterminals alone have any
pub record Spreads (n : ℕ) (e₀ s₀ e s : List ℕ) : Type 0 where
  pub width : length e ≡ length e₀
  pub size : length s ≡ length s₀
  pub edges : Short n e₀ → Short n s₀ → Spread e₀ e₀ e
  pub sets : Short n e₀ → Short n s₀ → Spread e₀ s₀ s
