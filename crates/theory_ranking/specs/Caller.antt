-- For the caller who brings candidates one by one: what holds of one more, and the report read from the list.
use Rattle.std.specs.Prelude.{ℕ, suc, ◌+◌, ◌≡◌, true, List, [], ◌∷◌, ◌++◌, length, ℤ, pos}
use Rattle.std.proofs.Common.{arith, sym, ap, subst, ◌∙◌}
use Rattle.meaning.specs.Value.{in_range}
use Rattle.meaning_ranking.specs.Ranking.{RankEntry, number, value, total_of, valued_of}
use Rattle.theory_ranking.specs.Entries.{Ranged, entries_of}
use Rattle.theory_ranking.specs.Sorting.{ranking_ranks}
use Rattle.theory_ranking.specs.Listing.{Listed, listed_entries}
use Rattle.theory_ranking.specs.Report.{counted_from, total_shuffled, valued_shuffled, ranged_shuffled}

counted_end : (k : ℕ) (es : List RankEntry) (e : RankEntry) → counted_from k es → number e ≡ pos (k + length es) → counted_from k (es ++ (e ∷ []))
counted_end k [] e c p = let z : k + 0 ≡ k = omega arith in (p ∙ ap pos z, tt)
counted_end k (x ∷ es) e c p = let z : k + suc (length es) ≡ suc k + length es = omega arith in (c.0, counted_end (suc k) es e c.1 (p ∙ ap pos z))

-- the next number
pub counted_more : (es : List RankEntry) (e : RankEntry) → counted_from 0 es → number e ≡ pos (length es) → counted_from 0 (es ++ (e ∷ []))
counted_more es e c p = let z : length es ≡ 0 + length es = omega arith in counted_end 0 es e c (p ∙ ap pos z)

pub ranged_more : (es : List RankEntry) (e : RankEntry) → Ranged es → in_range (value e) ≡ true → Ranged (es ++ (e ∷ []))
ranged_more [] e r p = (p, tt)
ranged_more (x ∷ es) e r p = (r.0, ranged_more es e r.1 p)

module _ (es : List RankEntry) (l₀ l : List ℤ) (q : Listed es l₀ l) where
  -- what the total requires
  pub listed_ranged : Ranged es → Ranged (entries_of (length es) l)
  listed_ranged r = subst (λ xs. Ranged xs) (sym (listed_entries es l₀ l q)) (ranged_shuffled (ranking_ranks es).each r)

  -- the report is that of the candidates
  pub listed_total : total_of (entries_of (length es) l) ≡ total_of es
  listed_total = ap total_of (listed_entries es l₀ l q) ∙ sym (total_shuffled (ranking_ranks es).each)

  pub listed_valued : valued_of (entries_of (length es) l) ≡ valued_of es
  listed_valued = ap valued_of (listed_entries es l₀ l q) ∙ sym (valued_shuffled (ranking_ranks es).each)
