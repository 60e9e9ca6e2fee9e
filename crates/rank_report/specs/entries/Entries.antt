-- Entries in the list.
use Rattle.std.specs.Prelude.{ℕ, ◌+◌, ◌*◌, List, set, ℤ}
use Rattle.meaning_ranking.specs.Ranking.{RankEntry, rank_entry}

-- an entry's three cells
abbrev pub put_at : List ℤ → ℕ → RankEntry → List ℤ
put_at l i (rank_entry n v r) = set (set (set l (3 * i) n) (3 * i + 1) v) (3 * i + 2) r
