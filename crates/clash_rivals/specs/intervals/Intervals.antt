-- What is kept of the entry conditions of production p from 8 p on: a low and a high end for each inherited attribute.
use Rattle.std.specs.Prelude.{ℕ, ◌+◌, ◌*◌, min, max, Bool, List, leb, get_or}
use Rattle.meaning.specs.Limits.{attributes_limit}
use Rattle.meaning.specs.Base.{all, count_from}

-- no interval of both p and q is empty: from the higher low end to the lower high end
unfoldable pub leave_values : List ℕ → List ℕ → ℕ → ℕ → Bool
leave_values lows highs p q =
    all (λ a. leb (max (get_or lows (attributes_limit * p + a) 0) (get_or lows (attributes_limit * q + a) 0)) (min (get_or highs (attributes_limit * p + a) 0) (get_or highs (attributes_limit * q + a) 0))) (count_from 0 attributes_limit)
