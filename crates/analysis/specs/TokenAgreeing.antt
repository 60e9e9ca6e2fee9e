-- What the passes over the rows end at is what 01's definitions compute: first, follow, and FIRST-then-FOLLOW.
use Rattle.std.specs.Prelude.{ℕ, ◌<◌, ◌≡◌, refl, ◌⊎◌, Bool, true, false, ◌&&◌, ◌||◌, List, [], ◌∷◌, ◌++◌, map, T, get_or, length, take, drop, replicate}
use Rattle.std.proofs.Common.{zero-le, sym, ap, ap₂, ◌∙◌, inl, inr, ltb→lt, take-append-drop}
use Rattle.std.proofs.Math.Bool.{or-false}
use Rattle.std.proofs.Math.ListN.{get_or-map}
use Rattle.std.proofs.Math.Seq.{drop-append_seam}
use Rattle.meaning.specs.Limits.{nonterminals_limit}
use Rattle.meaning.specs.Base.{all}
use Rattle.meaning.specs.Grammar.{Symbol, terminal, nonterminal, Grammar, production_at, nonterminal_count}
use Rattle.meaning.specs.Derivation.{Listed}
use Rattle.meaning.specs.Sets.{TokenSet, end_number, empty_set, has, singleton, only_if, nullable, empty_symbol, empty_string, first_string, first, follow, starts}
use Rattle.theory_base.specs.Members.{both, same_truth}
use Rattle.theory_sets.specs.Tests.{all_right}
use Rattle.theory_sets.specs.Productions.{known, symbols, lefts}
use Rattle.theory_sets.specs.FirstSets.{first_closed}
use Rattle.theory_sets.specs.AfterSets.{Source, by_start, by_production, follow_closed}
use Rattle.theory_sets.specs.LeastSets.{first_least, follow_least}
use Rattle.theory_sets.specs.TokenSets.{has_union, has_empty}
use Rattle.theory_sets.specs.Widths.{same_set, starts_wide}
use Rattle.token_set.specs.SetBits.{set_of, set_empty, set_of_wide}
use Rattle.outline.specs.Images.{ImageOf, right_at}
use Rattle.set_words.specs.Views.{members, sees, WithinAll, fit, opens, FrontAt, Below}
use Rattle.analysis.specs.Tables.{SettledTable, zeros_none}
use Rattle.analysis.specs.Follows.{FollowClosed, Followed}
use Rattle.analysis.specs.Agreeing.{Marks, fits_empty, all_same, listed, counted}

-- the token sets of a table
abbrev pub sets_of : List ℕ → List TokenSet
sets_of t = map set_of t

pub sets_at : (t : List ℕ) (n : ℕ) → get_or (sets_of t) n empty_set ≡ set_of (get_or t n 0)
sets_at t n = ap (λ (d : TokenSet). get_or (sets_of t) n d) (sym set_empty) ∙ get_or-map set_of t n 0

-- the words of a table are a list of token sets
pub record Holds (t : List ℕ) (f : List TokenSet) : Type 0 where
  pub is : (n u : ℕ) → sees t u n ≡ has (get_or f n empty_set) u

pub holds_sets : (t : List ℕ) → Holds t (sets_of t)
holds_sets t = record { is = λ n u. ap (λ (s : TokenSet). has s u) (sym (sets_at t n)) }

-- ---- opens is first_string
module _ (gone : ℕ → Bool) (e : List Bool) (marks : (n : ℕ) → gone n ≡ get_or e n false) (f : List TokenSet) (see : ℕ → Bool) (u : ℕ) (is : (n : ℕ) → see n ≡ has (get_or f n empty_set) u) where
  only_has : (b : Bool) (s : TokenSet) → has (only_if b s) u ≡ (b && has s u)
  only_has true s = refl
  only_has false s = has_empty u

  pub opens_first : (xs : List Symbol) → opens true gone see u false xs ≡ has (first_string e f xs) u
  opens_first [] = sym (has_empty u)
  opens_first (terminal t ∷ xs) = sym (has_union (singleton t) empty_set u ∙ ap (λ (b : Bool). has (singleton t) u || b) (has_empty u) ∙ or-false (has (singleton t) u))
  opens_first (nonterminal n ∷ xs) =
      ap₂ (λ (a b : Bool). a || (b && opens true gone see u false xs)) (is n) (marks n)
      ∙ ap (λ (c : Bool). has (get_or f n empty_set) u || (get_or e n false && c)) (opens_first xs)
      ∙ sym (has_union (get_or f n empty_set) (only_if (get_or e n false) (first_string e f xs)) u ∙ ap (λ (c : Bool). has (get_or f n empty_set) u || c) (only_has (get_or e n false) (first_string e f xs)))

-- what comes after counts where the string derives nothing
pub opens_split : (b : Bool) (gone see : ℕ → Bool) (u : ℕ) (w : Bool) (xs : List Symbol) → opens b gone see u w xs ≡ (opens b gone see u false xs || (all (fit false gone) xs && w))
opens_split b gone see u w [] = refl
opens_split b gone see u w (terminal t ∷ xs) = sym (or-false (b && has (singleton t) u))
opens_split b gone see u w (nonterminal n ∷ xs) = ap (λ (c : Bool). see n || (gone n && c)) (opens_split b gone see u w xs) ∙ cases (see n) (gone n) (opens b gone see u false xs) (all (fit false gone) xs)
  where
    cases : (s q a c : Bool) → (s || (q && (a || (c && w)))) ≡ ((s || (q && a)) || ((q && c) && w))
    cases true q a c = refl
    cases false true a c = refl
    cases false false a c = refl

-- the nonterminal at the head of what is left of a string of known symbols is known
known_head : (g : Grammar) (n j : ℕ) (xs rest : List Symbol) → T (all (known g) xs) → drop j xs ≡ nonterminal n ∷ rest → n < nonterminal_count g
known_head g n j xs rest k e =
    let d : T (all (known g) (drop j xs)) = all_right (known g) (take j xs) (drop j xs) (rw (take-append-drop j xs) k) in
    ltb→lt n (nonterminal_count g) (both (known g (nonterminal n)) (all (known g) rest) (rw e at d)).0

-- the nonterminals of the rows are those of the grammar
pub below : {rows : List ℕ} {count : ℕ} {g : Grammar} → ImageOf rows count g → Below (nonterminal_count g) rows count
below {g = g} r =
    record {
      lefts = λ p l. rw (r.left p l) (lefts r.sound p (listed r p l));
      rights = λ p j m rest l e. known_head g m j (production_at g p).right rest (symbols r.sound p (listed r p l)) (rw (r.right p l) at e);
    }

module _ {rows : List ℕ} {count : ℕ} {g : Grammar} (r : ImageOf rows count g) (null : ℕ) (gone : Marks null (nullable g)) where
  pub first_holds : (t : List ℕ) → SettledTable (WithinAll (FrontAt true (members null) rows) 0 count) (replicate nonterminals_limit 0) t → Holds t (first g)
  first_holds t st = record { is = λ n u. same_truth (sees t u n) (has (get_or (first g) n empty_set) u) (to u n) (back u n) }
    where
      closed : (u p : ℕ) → p < count → FrontAt true (members null) rows u p (λ n. has (get_or (first g) n empty_set) u)
      closed u p l h = rw (r.left p l) (first_closed r.sound u p (listed r p l) (rw (r.right p l, opens_first (members null) (nullable g) gone.is (first g) (λ n. has (get_or (first g) n empty_set) u) u (λ n. refl) (production_at g p).right) at h))

      to : (u n : ℕ) → T (sees t u n) → T (has (get_or (first g) n empty_set) u)
      to u = st.least u (λ n. has (get_or (first g) n empty_set) u) (record { at = λ p _. closed u p }) (λ n h. absurd (zeros_none nonterminals_limit u n h))

      table : (u p : ℕ) → Listed g p → T (has (first_string (nullable g) (sets_of t) (production_at g p).right) u) → T (has (get_or (sets_of t) (production_at g p).left empty_set) u)
      table u p l h =
          let m = counted r p l in
          rw (sets_at t (production_at g p).left, ← r.left p m)
          ((st.closed u).at p zero-le m (rw (r.right p m, opens_first (members null) (nullable g) gone.is (sets_of t) (sees t u) u (λ n. (holds_sets t).is n u) (production_at g p).right) h))

      back : (u n : ℕ) → T (has (get_or (first g) n empty_set) u) → T (sees t u n)
      back u n h = rw ((holds_sets t).is n u) (first_least r.sound u (sets_of t) (table u) n h)

  -- what a string begins with, by a table that holds FIRST
  module _ (f : List ℕ) (firsts : Holds f (first g)) where
    begins : (u : ℕ) (xs : List Symbol) → opens true (members null) (sees f u) u false xs ≡ has (first_string (nullable g) (first g) xs) u
    begins u = opens_first (members null) (nullable g) gone.is (first g) (sees f u) u (λ n. firsts.is n u)

    vanish : (xs : List Symbol) → all (fit false (members null)) xs ≡ empty_string (nullable g) xs
    vanish = all_same (fit false (members null)) (empty_symbol (nullable g)) (fits_empty (members null) (nullable g) gone.is)

    pub follow_holds : (t : List ℕ) → Followed (members null) f rows count g.start t → Holds t (follow g)
    follow_holds t st = record { is = λ n u. same_truth (sees t u n) (has (get_or (follow g) n empty_set) u) (to u n) (back u n) }
      where
        add :
            (u p j n : ℕ) (rest : List Symbol) → p < count → drop j (right_at rows p) ≡ nonterminal n ∷ rest
            → T (has (first_string (nullable g) (first g) rest) u) ⊎ (T (empty_string (nullable g) rest) × T (has (get_or (follow g) (production_at g p).left empty_set) u)) → T (has (get_or (follow g) n empty_set) u)
        add u p j n rest l e k =
            let d : drop j (production_at g p).right ≡ nonterminal n ∷ rest = rw (r.right p l) at e in
            follow_closed r.sound u n (known_head g n j (production_at g p).right rest (symbols r.sound p (listed r p l)) d)
            (by_production p (listed r p l) (record { before = take j (production_at g p).right; rest = rest; whole = sym (take-append-drop j (production_at g p).right) ∙ ap (λ (xs : List Symbol). take j (production_at g p).right ++ xs) d; token = k }))

        closed : (u : ℕ) → FollowClosed (members null) f rows count u (λ n. has (get_or (follow g) n empty_set) u)
        closed u =
            record {
              bases = record { base = λ p l. record { at = λ j n rest _ e h. add u p j n rest l e (inl (rw (begins u rest) at h)) } };
              tails = record { tail = λ p l. record { at = λ j n rest _ e a h. add u p j n rest l e (inr (rw (vanish rest) at a, rw (r.left p l) at h)) } };
            }

        begun : (u : ℕ) → u ≡ end_number → T (has (get_or (follow g) g.start empty_set) u)
        begun u e = follow_closed r.sound u g.start r.sound.start (by_start refl e)

        to : (u n : ℕ) → T (sees t u n) → T (has (get_or (follow g) n empty_set) u)
        to u = st.least u (λ n. has (get_or (follow g) n empty_set) u) (closed u) (begun u)

        whole : (u n : ℕ) → Source r.sound u (sets_of t) n → T (sees t u n)
        whole u n (by_start e h) = rw (e, h) st.begun
        whole u n (by_production p l b) = go b.token
          where
            m : p < count
            m = counted r p l

            split : drop (length b.before) (right_at rows p) ≡ nonterminal n ∷ b.rest
            split = ap (drop (length b.before)) (r.right p m ∙ b.whole) ∙ drop-append_seam b.before (nonterminal n ∷ b.rest)

            go : T (has (first_string (nullable g) (first g) b.rest) u) ⊎ (T (empty_string (nullable g) b.rest) × T (has (get_or (sets_of t) (production_at g p).left empty_set) u)) → T (sees t u n)
            go (inl h) = ((st.closed u).bases.base p m).at (length b.before) n b.rest zero-le split (rw (begins u b.rest) h)
            go (inr h) = ((st.closed u).tails.tail p m).at (length b.before) n b.rest zero-le split (rw (vanish b.rest) h.0) (rw (r.left p m, (holds_sets t).is (production_at g p).left u) h.1)

        back : (u n : ℕ) → T (has (get_or (follow g) n empty_set) u) → T (sees t u n)
        back u n h = rw ((holds_sets t).is n u) (follow_least r.sound u (sets_of t) (λ m k. rw (← (holds_sets t).is m u) (whole u m k)) n h)

    -- FIRST-then-FOLLOW of production p; FOLLOW matters only where the right side derives nothing
    pub starts_is : (w t p : ℕ) → p < count → (T (empty_string (nullable g) (production_at g p).right) → (u : ℕ) → members t u ≡ has (get_or (follow g) (production_at g p).left empty_set) u)
        → ((u : ℕ) → members w u ≡ opens true (members null) (sees f u) u (members t u) (right_at rows p)) → set_of w ≡ starts g (production_at g p)
    starts_is w t p l after is = same_set (set_of w) (starts g (production_at g p)) (set_of_wide w) (starts_wide g (production_at g p)) (λ u _ h. rw (equal u) at h) (λ u _ h. rw (equal u) h)
      where
        tail : (u : ℕ) (b : Bool) → (T b → members t u ≡ has (get_or (follow g) (production_at g p).left empty_set) u) → (b && members t u) ≡ has (only_if b (get_or (follow g) (production_at g p).left empty_set)) u
        tail u true k = k tt
        tail u false k = sym (has_empty u)

        equal : (u : ℕ) → members w u ≡ has (starts g (production_at g p)) u
        equal u =
            is u ∙ ap (opens true (members null) (sees f u) u (members t u)) (r.right p l)
            ∙ opens_split true (members null) (sees f u) u (members t u) (production_at g p).right
            ∙ ap₂ (λ (a b : Bool). a || (b && members t u)) (begins u (production_at g p).right) (vanish (production_at g p).right)
            ∙ ap (λ (a : Bool). has (first_string (nullable g) (first g) (production_at g p).right) u || a) (tail u (empty_string (nullable g) (production_at g p).right) (λ h. after h u))
            ∙ sym (has_union (first_string (nullable g) (first g) (production_at g p).right) (only_if (empty_string (nullable g) (production_at g p).right) (get_or (follow g) (production_at g p).left empty_set)) u)
