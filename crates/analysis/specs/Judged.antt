-- What the code finds is what 01's definitions compute: the lowest useless and left recursive nonterminal, and the sets of the productions.
use Rattle.std.specs.Prelude.{ℕ, ◌≡◌, Bool, true, ◌&&◌, not, List, T, get_or, replicate, Option}
use Rattle.std.proofs.Common.{ap, ap₂, ◌∙◌}
use Rattle.meaning.specs.Limits.{nonterminals_limit}
use Rattle.meaning.specs.Grammar.{Grammar, production_at, nonterminal_count}
use Rattle.meaning.specs.Derivation.{Listed}
use Rattle.meaning.specs.Sets.{empty_set, has, singleton, nullable, empty_string, follow, starts}
use Rattle.meaning.specs.Decide.{is_left_recursive}
use Rattle.theory_sets.specs.Nullable.{nullable_closed}
use Rattle.token_set.specs.SetBits.{set_of}
use Rattle.outline.specs.Images.{ImageOf, left_at}
use Rattle.set_words.specs.Views.{members, sees, Within, WithinAll, ClosedAt, ReachAt, FrontAt, LeadAt}
use Rattle.set_words.specs.Growth.{Settled, SetsTo, none_in}
use Rattle.analysis.specs.Tables.{SettledTable}
use Rattle.analysis.specs.Follows.{Followed}
use Rattle.analysis.specs.Lowest.{Lowest, lowest_same}
use Rattle.analysis.specs.Starts.{starts_by}
use Rattle.analysis.specs.Agreeing.{Marks, counted, productive_marks, reachable_below}
use Rattle.analysis.specs.TokenAgreeing.{first_holds, follow_holds, starts_is}
use Rattle.analysis.specs.RecursionAgreeing.{recursive_is}
use Rattle.analysis.specs.Finding.{is_useless}

module _ {rows : List ℕ} {count : ℕ} {g : Grammar} (r : ImageOf rows count g) where
  pub useless_found :
      (x reached live : ℕ) (n : Option ℕ) → set_of x ≡ singleton g.start → Settled (Within (ReachAt rows) 0 count) x reached → Settled (Within (ClosedAt true rows) 0 count) 0 live
      → Lowest (λ i. not (members reached i && members live i)) (nonterminal_count g) n → Lowest (is_useless g) (nonterminal_count g) n
  useless_found x reached live n one a b =
      lowest_same (λ i. not (members reached i && members live i)) (is_useless g) (nonterminal_count g) n
      (λ j l. ap₂ (λ (p q : Bool). not (p && q)) (reachable_below r x reached one a j l) ((productive_marks r live b).is j))

  pub recursive_found : (null : ℕ) (n : Option ℕ) (t : List ℕ) → Marks null (nullable g) → SettledTable (WithinAll (LeadAt (members null) rows) 0 count) (replicate nonterminals_limit 0) t → Lowest (λ i. sees t i i) (nonterminal_count g) n → Lowest (is_left_recursive g) (nonterminal_count g) n
  recursive_found null n t gone st = lowest_same (λ i. sees t i i) (is_left_recursive g) (nonterminal_count g) n (λ j l. recursive_is r null gone t st j)

  -- FOLLOW is needed only where some nonterminal derives nothing
  pub starts_found : (null : ℕ) (f t sets : List ℕ) → Marks null (nullable g) → SettledTable (WithinAll (FrontAt true (members null) rows) 0 count) (replicate nonterminals_limit 0) f
      → ((null ≡ 0 → ⊥) → Followed (members null) f rows count g.start t) → SetsTo (starts_by (members null) f t rows) count sets → (p : ℕ) → Listed g p → set_of (get_or sets p 0) ≡ starts g (production_at g p)
  starts_found null f t sets gone fs fo st p l =
      let m = counted r p l in
      let firsts = first_holds r null gone f fs in
      starts_is r null gone f firsts (get_or sets p 0) (get_or t (left_at rows p) 0) p m after (st.is p m)
    where
      after : T (empty_string (nullable g) (production_at g p).right) → (u : ℕ) → sees t u (left_at rows p) ≡ has (get_or (follow g) (production_at g p).left empty_set) u
      after h u =
          let m = counted r p l in
          ap (sees t u) (r.left p m) ∙ (follow_holds r null gone f (first_holds r null gone f fs) t (fo some)).is (production_at g p).left u
        where
          some : null ≡ 0 → ⊥
          some z =
              let a : T (members null (production_at g p).left) = rw (gone.is (production_at g p).left) (nullable_closed r.sound p l h) in
              rw (z, none_in (production_at g p).left) at a
