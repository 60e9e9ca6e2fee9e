-- What entry conditions a production has, by how much they say: 0 none, 1 ranges, 2 a comparison.
use Rattle.std.specs.Prelude.{ℕ, ◌≡◌, List, map, get_or, set}
use Rattle.std.proofs.Math.ListN.{get_or-map}
use Rattle.std.proofs.lemmas.List.{map-set}
use Rattle.clash_entries.specs.declared.conditions.entry.Entry.{Entry}
use Rattle.clash_entries.specs.declared.conditions.entry.Entry.TheVariants.{Free, Ranges, Compared}

abbrev pub rank : Entry → ℕ
rank Free = 0
rank Ranges = 1
rank Compared = 2

-- of each production
abbrev pub ranks_of : List Entry → List ℕ
ranks_of = map rank

-- read and written at one production
pub rank_at : (xs : List Entry) (p : ℕ) → get_or (ranks_of xs) p 0 ≡ rank (get_or xs p Free)
rank_at xs p = get_or-map rank xs p Free

pub rank_set : (xs : List Entry) (p : ℕ) (k : Entry) → ranks_of (set xs p k) ≡ set (ranks_of xs) p (rank k)
rank_set xs p k = map-set rank xs p k
