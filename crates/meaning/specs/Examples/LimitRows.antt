-- The limit of a table's bytes.
use Rattle.std.specs.Prelude.{ℕ, ◌≡◌, List, length}
use Rattle.meaning.specs.Table.{malformed, read_table}

-- 1: any table of 32,769 bytes
too_long_by_one : (bs : List ℕ) → length bs ≡ 32769 → read_table bs ≡ malformed 1 0
too_long_by_one bs e = rw (e, read_table)
