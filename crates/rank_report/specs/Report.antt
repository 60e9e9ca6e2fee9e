-- What the list comes to.
use Rattle.std.specs.Prelude.{ℕ, ◌*◌, ◌≤◌, ◌≡◌, List, ◌++◌, length, drop, ℤ}
use Rattle.std.proofs.Common.{sym, ap, ap₂, ◌∙◌, subst}
use Rattle.meaning_ranking.specs.Ranking.{ranking, cells_of, total_of, valued_of}
use Rattle.theory_ranking.specs.Entries.{entries_of, Ranged}
use Rattle.theory_ranking.specs.Cells.{length_entries}
use Rattle.theory_ranking.specs.Caller.{listed_ranged, listed_total, listed_valued}
use Rattle.rank_report.specs.declared.Ranked.{Ranked}
use Rattle.rank_report.specs.declared.Ranked.TheVariants.{Done}

pub record Reported (count : ℕ) (l₀ l : List ℤ) (r : Ranked) : Type 0 where
  pub is_list : l ≡ cells_of (ranking (entries_of count l₀)) ++ drop (3 * count) l₀
  pub report : r ≡ Done (valued_of (entries_of count l₀)) (total_of (entries_of count l₀)) count

module _ (count : ℕ) (l₀ l : List ℤ) (room : 3 * count ≤ length l₀) (q : l ≡ cells_of (ranking (entries_of count l₀)) ++ drop (3 * count) l₀) where
  size : length (entries_of count l₀) ≡ count
  size = length_entries count l₀ room

  listed_here : l ≡ cells_of (ranking (entries_of count l₀)) ++ drop (3 * length (entries_of count l₀)) l₀
  listed_here = q ∙ ap (λ n. cells_of (ranking (entries_of count l₀)) ++ drop (3 * n) l₀) (sym size)

  pub report_ranged : Ranged (entries_of count l₀) → Ranged (entries_of count l)
  report_ranged r = subst (λ n. Ranged (entries_of n l)) size (listed_ranged (entries_of count l₀) l₀ l listed_here r)

  pub reported : (valued : ℕ) (sum : ℤ) → valued ≡ valued_of (entries_of count l) → sum ≡ total_of (entries_of count l) → Reported count l₀ l (Done valued sum count)
  reported valued sum a b =
      let x : valued ≡ valued_of (entries_of count l₀) = a ∙ (ap (λ n. valued_of (entries_of n l)) (sym size) ∙ listed_valued (entries_of count l₀) l₀ l listed_here) in
      let y : sum ≡ total_of (entries_of count l₀) = b ∙ (ap (λ n. total_of (entries_of n l)) (sym size) ∙ listed_total (entries_of count l₀) l₀ l listed_here) in
      record { is_list = q; report = ap₂ (λ n t. Done n t count) x y }
