-- The search for the lowest clash, over what the reader and the analysis leave of a table.
use Rattle.std.specs.Prelude.{ℕ, ◌+◌, ◌≤◌, ◌<◌, ◌≡◌, refl, Bool, true, false, ◌||◌, List, ◌++◌, T, eqb, get_or, length, replicate, set, Option, None, MatchOption}
use Rattle.std.proofs.Math.Decide.{ℕ_discrete}
use Rattle.std.proofs.Common.{arith, ◌∙◌, subst, ⊎_elim, length-set, get_or-set_same, get_or-set_other}
use Rattle.std.proofs.Math.Path.{sym, ap, ap₂}
use Rattle.std.proofs.Math.Bool.{◌&&◌}
use Rattle.std.proofs.Math.Dec.{eqb_refl}
use Rattle.std.proofs.lemmas.List.{length-replicate}
use Rattle.std.specs.Int.Bits.{bit_or}
use Rattle.meaning.specs.Limits.{attributes_limit, nonterminals_limit, productions_limit}
use Rattle.meaning.specs.Base.{all, is_empty}
use Rattle.meaning.specs.Grammar.{Production, Grammar, production_at, inh, nonterminal}
use Rattle.meaning.specs.Layout.{Bytes}
use Rattle.meaning.specs.Sets.{starts}
use Rattle.meaning.specs.Decide.{meet, satisfiable, clash, clashes, entry_conditions}
use Rattle.theory_base.specs.Members.{and, both, true→T, T→true, all_append}
use Rattle.theory_sets.specs.Intervals.{entry}
use Rattle.theory_sets.specs.Satisfiable.{satisfiable_eight}
use Rattle.theory_sets.specs.Clashes.{meet_cases, meet_at}
use Rattle.token_set.specs.SetBits.{set_of}
use Rattle.outline.specs.Images.{left_at}
use Rattle.outline.specs.Outline.{grammar_in, Starting, Productions}
use Rattle.set_words.specs.Views.{members, sees}
use Rattle.set_words.specs.Growth.{or_left, or_right, or_members}
use Rattle.analysis.specs.Tables.{zeros_none}
use Rattle.analysis.specs.Numbers.{Clear, clear_any, any_count, count_any}
use Rattle.clash_entries.specs.conditions.EntryConditions.{rank_by, raise_by, lower_by, lowest, highest}
use Rattle.clash_entries.specs.conditions.Walk.{after_all}
use Rattle.clash_rivals.specs.Rivals.{start_together, NextRival, start_same, start_tells}
use Rattle.clash.specs.Kept.{Own, Stored, stored_own, stored_other, bounds_length}
use Rattle.clash.specs.Together.{enter_together, later_free}
use Rattle.clash.specs.Placing.{Placed, placed_at}

-- what there are of the entry conditions of production p of a table
abbrev pub Ranked : List ℕ → List ℕ → ℕ → Type 0
Ranked t ranks p = get_or ranks p 0 ≡ after_all rank_by (production_at (grammar_in t) p) 0

-- what is kept of them: what there are, and the ends that they leave
pub record Kept (t lows highs ranks : List ℕ) (p : ℕ) : Type 0 where
  pub rank : Ranked t ranks p
  pub low : Own (after_all raise_by (production_at (grammar_in t) p) lowest) lows p
  pub high : Own (after_all lower_by (production_at (grammar_in t) p) highest) highs p

-- that of production p added, and nothing else
pub record Keeps (t : List ℕ) (p : ℕ) (lows₀ highs₀ ranks₀ lows highs ranks : List ℕ) : Type 0 where
  pub low : Stored attributes_limit (after_all raise_by (production_at (grammar_in t) p) lowest) p lows₀ lows
  pub high : Stored attributes_limit (after_all lower_by (production_at (grammar_in t) p) highest) p highs₀ highs
  pub rank : ranks ≡ set ranks₀ p (after_all rank_by (production_at (grammar_in t) p) 0)

pub record KeepsIf (wanted : Bool) (t : List ℕ) (p : ℕ) (lows₀ highs₀ ranks₀ lows highs ranks : List ℕ) : Type 0 where
  pub taken : wanted ≡ true → Keeps t p lows₀ highs₀ ranks₀ lows highs ranks
  pub passed : wanted ≡ false → (lows ≡ lows₀) × (highs ≡ highs₀) × (ranks ≡ ranks₀)

-- that of the productions before k whose left side is in a set
pub record KeptTo (t rows : List ℕ) (met : ℕ) (lows highs ranks : List ℕ) (k : ℕ) : Type 0 where
  pub lows_all : length lows ≡ bounds_length
  pub highs_all : length highs ≡ bounds_length
  pub ranks_all : length ranks ≡ productions_limit
  pub each : (p : ℕ) → p < k → T (members met (left_at rows p)) → Kept t lows highs ranks p

module _ {t rows : List ℕ} {met : ℕ} where
  pub kept_none : KeptTo t rows met (replicate bounds_length 0) (replicate bounds_length 0) (replicate productions_limit 0) 0
  kept_none =
      let none : ℕ = 0 in
      record { lows_all = length-replicate bounds_length none; highs_all = length-replicate bounds_length none; ranks_all = length-replicate productions_limit none; each = λ p l. absurd (omega arith) }

  kept_more : {k : ℕ} {lows₀ highs₀ ranks₀ lows highs ranks : List ℕ} → k < productions_limit → KeptTo t rows met lows₀ highs₀ ranks₀ k → Keeps t k lows₀ highs₀ ranks₀ lows highs ranks → KeptTo t rows met lows highs ranks (k + 1)
  kept_more {k} {ranks₀ = ranks₀} {lows = lows} {highs = highs} {ranks = ranks} l o n = record {
    lows_all = n.low.size ∙ o.lows_all;
    highs_all = n.high.size ∙ o.highs_all;
    ranks_all = ap length n.rank ∙ length-set ranks₀ k rank ∙ o.ranks_all;
    each = λ p m w. go p m w (ℕ_discrete p k);
  }
    where
      rank : ℕ
      rank = after_all rank_by (production_at (grammar_in t) k) 0

      go : (p : ℕ) → p < k + 1 → T (members met (left_at rows p)) → Dec (p ≡ k) → Kept t lows highs ranks p
      go p m w (yes e) = subst (Kept t lows highs ranks) (sym e) (record { rank = ap (λ z. get_or z k 0) n.rank ∙ get_or-set_same ranks₀ k rank 0 (omega (arith, o.ranks_all)); low = stored_own n.low; high = stored_own n.high })
      go p m w (no e) =
          let y = o.each p (omega arith) w in
          record { rank = ap (λ z. get_or z p 0) n.rank ∙ (get_or-set_other ranks₀ k p rank 0 e ∙ y.rank); low = stored_other n.low y.low (omega arith); high = stored_other n.high y.high (omega arith) }

  kept_same : {k : ℕ} {lows highs ranks : List ℕ} → KeptTo t rows met lows highs ranks k → members met (left_at rows k) ≡ false → KeptTo t rows met lows highs ranks (k + 1)
  kept_same {k} {lows} {highs} {ranks} o n = record { lows_all = o.lows_all; highs_all = o.highs_all; ranks_all = o.ranks_all; each = λ p m w. go p m w (ℕ_discrete p k) }
    where
      go : (p : ℕ) → p < k + 1 → T (members met (left_at rows p)) → Dec (p ≡ k) → Kept t lows highs ranks p
      go p m w (yes e) = absurd (subst T n (subst (λ j. T (members met (left_at rows j))) e w))
      go p m w (no e) = o.each p (omega arith) w

  pub kept_next :
      {k : ℕ} {lows₀ highs₀ ranks₀ lows highs ranks : List ℕ} → k < productions_limit → KeptTo t rows met lows₀ highs₀ ranks₀ k → (wanted : Bool) → wanted ≡ members met (left_at rows k)
      → KeepsIf wanted t k lows₀ highs₀ ranks₀ lows highs ranks → KeptTo t rows met lows highs ranks (k + 1)
  kept_next l o true e n = kept_more l o (n.taken refl)
  kept_next {k} {lows₀} {highs₀} {lows = lows} {highs = highs} {ranks = ranks} l o false e n =
      let y = n.passed refl in
      kept_same (subst (λ z. KeptTo t rows met z highs ranks k) (sym y.0) (subst (λ z. KeptTo t rows met lows₀ z ranks k) (sym y.1) (subst (λ z. KeptTo t rows met lows₀ highs₀ z k) (sym y.2) o))) (sym e)

-- the productions of a table of bytes, and their sets
pub record Given (t rows offsets sets : List ℕ) (count : ℕ) : Type 0 where
  pub is_bytes : Bytes t
  pub productions : Productions t rows offsets count
  pub starting : Starting (grammar_in t) count sets

pub given_place : {t rows offsets sets : List ℕ} {count : ℕ} → Given t rows offsets sets count → (p : ℕ) → p < count → Placed t offsets p
given_place x p l = placed_at x.productions x.is_bytes p l

-- productions p and q of a table clash
abbrev pub clash_in : List ℕ → ℕ → ℕ → Bool
clash_in t p q = clash (grammar_in t) (production_at (grammar_in t) p) (production_at (grammar_in t) q)

-- some values meet the entry conditions of both
abbrev pub enter_in : List ℕ → ℕ → ℕ → Bool
enter_in t p q = enter_together (production_at (grammar_in t) p) (production_at (grammar_in t) q)

-- ---- two productions

-- the last part of a clash
abbrev enters_with : Grammar → Production → Production → Bool
enters_with g p q = is_empty (entry_conditions p) || is_empty (entry_conditions q) || satisfiable (inh g (nonterminal p.left)) (entry_conditions p ++ entry_conditions q)

module _ {t rows offsets sets : List ℕ} {count : ℕ} (x : Given t rows offsets sets count) (p q : ℕ) (l : p < count) (m : q < count) where
  abbrev g : Grammar
  g = grammar_in t

  abbrev pr : ℕ → Production
  pr n = production_at g n

  left_is : eqb (left_at rows p) (left_at rows q) ≡ eqb (pr p).left (pr q).left
  left_is = ap₂ eqb (x.productions.rows_of.left p l) (x.productions.rows_of.left q m)

  meet_is : meet (set_of (get_or sets p 0)) (set_of (get_or sets q 0)) ≡ meet (starts g (pr p)) (starts g (pr q))
  meet_is = ap₂ meet (x.starting p l) (x.starting q m)

  same_test : start_together rows sets p q ≡ (eqb (pr p).left (pr q).left && meet (starts g (pr p)) (starts g (pr q)))
  unfolding start_together
  same_test = ap₂ ◌&&◌ left_is meet_is

  pub clash_apart : (r : Bool) → r ≡ start_together rows sets p q → r ≡ false → clash_in t p q ≡ false
  clash_apart r e n = ap (λ b. b && enters_with g (pr p) (pr q)) (sym same_test ∙ (sym e ∙ n))

  pub clash_met : (r : Bool) → r ≡ start_together rows sets p q → r ≡ true → (s : Bool) → s ≡ enter_together (pr p) (pr q) → (c : Bool) → s ≡ c → clash_in t p q ≡ c
  unfolding enter_together start_together
  clash_met r e n s h c k = ap (λ b. b && enters_with g (pr p) (pr q)) (sym same_test ∙ (sym e ∙ n)) ∙ (sym together ∙ (sym h ∙ k))
    where
      same : (pr q).left ≡ (pr p).left
      same = sym (x.productions.rows_of.left q m) ∙ (sym (start_tells rows sets p q (sym e ∙ n)).0 ∙ x.productions.rows_of.left p l)

      fits : T (all (entry (inh g (nonterminal (pr p).left))) (entry_conditions (pr p) ++ entry_conditions (pr q)))
      fits = all_append (entry (inh g (nonterminal (pr p).left))) (entry_conditions (pr p)) (entry_conditions (pr q)) (given_place x p l).fits (subst (λ n. T (all (entry (inh g (nonterminal n))) (entry_conditions (pr q)))) same (given_place x q m).fits)

      together : enter_together (pr p) (pr q) ≡ enters_with g (pr p) (pr q)
      together = ap (λ b. is_empty (entry_conditions (pr p)) || is_empty (entry_conditions (pr q)) || b) (satisfiable_eight (inh g (nonterminal (pr p).left)) (given_place x p l).few (entry_conditions (pr p) ++ entry_conditions (pr q)) fits)

  -- what a clash tells of the rows and the sets
  clash_tells : T (clash_in t p q) → start_together rows sets p q ≡ true
  clash_tells c = same_test ∙ T→true _ (both (eqb (pr p).left (pr q).left && meet (starts g (pr p)) (starts g (pr q))) (enters_with g (pr p) (pr q)) c).0

-- ---- a production and those before it

module _ (t : List ℕ) where
  pub clashes_one : (p q : ℕ) → q < p → clash_in t p q ≡ true → T (clashes (grammar_in t) p)
  clashes_one p q l e = any_count (clash_in t p) 0 p q (omega arith) (omega arith) (true→T _ e)

  pub clashes_none : (p : ℕ) → Clear (clash_in t p) p → T (clashes (grammar_in t) p) → ⊥
  clashes_none p c = clear_any (clash_in t p) p c

-- ---- what the productions of each left side have had so far
pub record Seen (rows sets : List ℕ) (k : ℕ) (seen : List ℕ) : Type 0 where
  pub size : length seen ≡ nonterminals_limit
  pub has : (p : ℕ) → p < k → (u : ℕ) → T (members (get_or sets p 0) u) → T (sees seen u (left_at rows p))
  pub only : (a u : ℕ) → T (sees seen u a) → (p : ℕ) × (p < k) × (left_at rows p ≡ a) × T (members (get_or sets p 0) u)

module _ (rows sets : List ℕ) where
  pub seen_none : Seen rows sets 0 (replicate nonterminals_limit 0)
  seen_none = record { size = refl; has = λ p l. absurd (omega arith); only = λ a u h. absurd (zeros_none nonterminals_limit u a h) }

  pub seen_next : (k : ℕ) (seen : List ℕ) → left_at rows k < nonterminals_limit → Seen rows sets k seen → Seen rows sets (k + 1) (set seen (left_at rows k) (bit_or (get_or seen (left_at rows k) 0) (get_or sets k 0)))
  seen_next k seen l s =
      record {
        size = length-set seen (left_at rows k) (bit_or (get_or seen (left_at rows k) 0) (get_or sets k 0)) ∙ s.size;
        has = λ p m u t. go p m u t (ℕ_discrete p k) (ℕ_discrete (left_at rows p) (left_at rows k));
        only = λ a u h. from a u h (ℕ_discrete a (left_at rows k));
      }
    where
      lt : left_at rows k < length seen
      lt = rw s.size l

      go : (p : ℕ) → p < k + 1 → (u : ℕ) → T (members (get_or sets p 0) u) → Dec (p ≡ k) → Dec (left_at rows p ≡ left_at rows k) → T (sees (set seen (left_at rows k) (bit_or (get_or seen (left_at rows k) 0) (get_or sets k 0))) u (left_at rows p))
      go p m u t (yes e) d = rw (e, get_or-set_same seen (left_at rows k) (bit_or (get_or seen (left_at rows k) 0) (get_or sets k 0)) 0 lt) (or_right (get_or seen (left_at rows k) 0) (get_or sets k 0) u (rw e at t))
      go p m u t (no e) (yes d) = rw (d, get_or-set_same seen (left_at rows k) (bit_or (get_or seen (left_at rows k) 0) (get_or sets k 0)) 0 lt) (or_left (get_or seen (left_at rows k) 0) (get_or sets k 0) u (rw d at (s.has p (omega arith) u t)))
      go p m u t (no e) (no d) = rw (get_or-set_other seen (left_at rows k) (left_at rows p) (bit_or (get_or seen (left_at rows k) 0) (get_or sets k 0)) 0 d) (s.has p (omega arith) u t)

      earlier : (a u : ℕ) → T (sees seen u a) → (p : ℕ) × (p < k + 1) × (left_at rows p ≡ a) × T (members (get_or sets p 0) u)
      earlier a u h = let w = s.only a u h in (w.0, omega (arith, w.1), w.2, w.3)

      from : (a u : ℕ) → T (sees (set seen (left_at rows k) (bit_or (get_or seen (left_at rows k) 0) (get_or sets k 0))) u a) → Dec (a ≡ left_at rows k) → (p : ℕ) × (p < k + 1) × (left_at rows p ≡ a) × T (members (get_or sets p 0) u)
      from a u h (no d) = earlier a u (rw (get_or-set_other seen (left_at rows k) a (bit_or (get_or seen (left_at rows k) 0) (get_or sets k 0)) 0 d) at h)
      from a u h (yes d) =
          ⊎_elim (λ o. earlier a u (rw d o)) (λ o. (k, omega arith, sym d, o))
          (or_members (get_or seen (left_at rows k) 0) (get_or sets k 0) u (rw (d, get_or-set_same seen (left_at rows k) (bit_or (get_or seen (left_at rows k) 0) (get_or sets k 0)) 0 lt) at h))

-- a set that meets that of an earlier production with its left side meets what that left side has had
seen_met : (rows sets : List ℕ) (k j : ℕ) (seen : List ℕ) → Seen rows sets k seen → j < k → start_together rows sets k j ≡ true → T (meet (set_of (get_or seen (left_at rows k) 0)) (set_of (get_or sets k 0)))
seen_met rows sets k j seen s l e =
    let c = start_tells rows sets k j e in
    let w = meet_cases (set_of (get_or sets k 0)) (set_of (get_or sets j 0)) c.1 in
    let i : T (sees seen w.0 (left_at rows k)) = subst (λ (n : ℕ). T (sees seen w.0 n)) (sym c.0) (s.has j l w.0 w.2) in
    meet_at (set_of (get_or seen (left_at rows k) 0)) (set_of (get_or sets k 0)) w.0 i w.1

-- where it meets nothing that they have had, nothing clashes
pub unmet_clear :
    {t rows offsets sets : List ℕ} {count : ℕ} → Given t rows offsets sets count → (k : ℕ) (seen : List ℕ) → k < count → Seen rows sets k seen
    → meet (set_of (get_or seen (left_at rows k) 0)) (set_of (get_or sets k 0)) ≡ false → Clear (clash_in t k) k
unmet_clear {t} {rows} {offsets} {sets} x k seen l s e = record { clear = λ j h c. rw e at (seen_met rows sets k j seen s h (clash_tells x k j l (omega arith) c)) }

-- no two productions before k start together
pub record Apart (rows sets : List ℕ) (k : ℕ) : Type 0 where
  pub apart : (p q : ℕ) → p < k → q < p → start_together rows sets p q ≡ true → ⊥

pub apart_none : (rows sets : List ℕ) → Apart rows sets 0
apart_none rows sets = record { apart = λ p q l. absurd (omega arith) }

-- production k, by what the productions with its left side have had
module _ {rows sets : List ℕ} {k : ℕ} {seen : List ℕ} (s : Seen rows sets k seen) where
  pub apart_next : Apart rows sets k → meet (set_of (get_or seen (left_at rows k) 0)) (set_of (get_or sets k 0)) ≡ false → Apart rows sets (k + 1)
  apart_next c n = record { apart = λ p q l h e. go p q l h e (ℕ_discrete p k) }
    where
      go : (p q : ℕ) → p < k + 1 → q < p → start_together rows sets p q ≡ true → Dec (p ≡ k) → ⊥
      go p q l h e (no d) = c.apart p q (omega arith) h e
      go p q l h e (yes d) = subst T n (seen_met rows sets k q seen s (omega arith) (subst (λ m. start_together rows sets m q ≡ true) d e))

  pub crossed : meet (set_of (get_or seen (left_at rows k) 0)) (set_of (get_or sets k 0)) ≡ true → (q : ℕ) × (q < k) × (start_together rows sets k q ≡ true)
  crossed e =
      let w = meet_cases (set_of (get_or seen (left_at rows k) 0)) (set_of (get_or sets k 0)) (true→T _ e) in
      let v = s.only (left_at rows k) w.0 w.1 in
      (v.0, v.1, sym (start_same rows sets k v.0 (sym v.2) true (sym (T→true _ (meet_at (set_of (get_or sets k 0)) (set_of (get_or sets v.0 0)) w.0 w.2 v.3)))))

-- r is the lowest production that starts together with an earlier one; none, and none does
abbrev pub FirstCrossing : List ℕ → List ℕ → ℕ → Option ℕ → Type 0
FirstCrossing rows sets count r = MatchOption r (Apart rows sets count) (λ k. (k < count) × Apart rows sets k × ((q : ℕ) × (q < k) × (start_together rows sets k q ≡ true)))

-- no clash comes before it
pub crossing_clear : {t rows offsets sets : List ℕ} {count r : ℕ} → Given t rows offsets sets count → r ≤ count → Apart rows sets r → Clear (clashes (grammar_in t)) r
crossing_clear {t} {r = r} x l f = record { clear = λ p m c. away p m (count_any (clash_in t p) 0 p c) }
  where
    away : (p : ℕ) → p < r → (q : ℕ) × (0 ≤ q) × (q < 0 + p) × T (clash_in t p q) → ⊥
    away p m w = f.apart p w.0 m (omega (arith, w.2)) (clash_tells x p w.0 (omega arith) (omega (arith, w.2)) w.3)

-- without entry conditions it is one itself
pub crossing_clashes :
    {t rows offsets sets : List ℕ} {count r : ℕ} → Given t rows offsets sets count → r < count → (q : ℕ) × (q < r) × (start_together rows sets r q ≡ true) → after_all rank_by (production_at (grammar_in t) r) 0 ≡ 0
    → T (clashes (grammar_in t) r)
crossing_clashes {t} {r = r} x l w none =
    clashes_one t r w.0 w.1 (clash_met x r w.0 l (omega (arith, w.1)) _ refl w.2 true (later_free (production_at (grammar_in t) r) (production_at (grammar_in t) w.0) none) true refl)

-- r is the first rival, if the set meets what its left side has had, or none
pub record FirstRival (meets : Bool) (f : ℕ → Bool) (later : ℕ) (r : Option ℕ) : Type 0 where
  pub met : meets ≡ true → NextRival f later 0 r
  pub unmet : meets ≡ false → r ≡ None

-- ---- left sides with productions whose sets meet
pub record Meeting (rows sets : List ℕ) (k met : ℕ) : Type 0 where
  pub covers : (p : ℕ) → p < k → (q : ℕ) → q < p → start_together rows sets p q ≡ true → T (members met (left_at rows p))

pub meeting_none : (rows sets : List ℕ) → Meeting rows sets 0 0
meeting_none rows sets = record { covers = λ p l. absurd (omega arith) }

pub meeting_next :
    {rows sets : List ℕ} {k met : ℕ} {seen : List ℕ} → Seen rows sets k seen → Meeting rows sets k met → (x : ℕ)
    → ((a : ℕ) → members x a ≡ (meet (set_of (get_or seen (left_at rows k) 0)) (set_of (get_or sets k 0)) && eqb (left_at rows k) a)) → Meeting rows sets (k + 1) (bit_or met x)
meeting_next {rows} {sets} {k} {met} {seen} s m x f = record { covers = λ p l q h e. go p l q h e (ℕ_discrete p k) }
  where
    go : (p : ℕ) → p < k + 1 → (q : ℕ) → q < p → start_together rows sets p q ≡ true → Dec (p ≡ k) → T (members (bit_or met x) (left_at rows p))
    go p l q h e (yes i) =
        let u = seen_met rows sets k q seen s (omega arith) (subst (λ n. start_together rows sets n q ≡ true) i e) in
        let v = and (meet (set_of (get_or seen (left_at rows k) 0)) (set_of (get_or sets k 0))) (eqb (left_at rows k) (left_at rows k)) u (eqb_refl (left_at rows k)) in
        subst (λ n. T (members (bit_or met x) (left_at rows n))) (sym i) (or_right met x (left_at rows k) (subst T (sym (f (left_at rows k))) v))
    go p l q h e (no i) = or_left met x (left_at rows p) (m.covers p (omega arith) q h e)

-- of two productions that start together the entry conditions are kept
pub both_kept :
    {t rows sets : List ℕ} {count met : ℕ} {lows highs ranks : List ℕ} → Meeting rows sets count met → (p q : ℕ) → KeptTo t rows met lows highs ranks (p + 1) → p < count → q < p → (r : Bool) → r ≡ start_together rows sets p q → r ≡ true
    → Kept t lows highs ranks p × Kept t lows highs ranks q
both_kept {rows = rows} {sets = sets} {met = met} m p q k l h r i t =
    let e = sym i ∙ t in
    let u = m.covers p l q h e in
    (k.each p (omega arith) u, k.each q (omega arith) (subst (λ n. T (members met n)) (start_tells rows sets p q e).0 u))
