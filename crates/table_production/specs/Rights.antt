-- The words of the right sides of the productions read so far.
use Rattle.std.specs.Prelude.{ℕ, ◌≤◌, ◌<◌, List}
use Rattle.meaning.specs.Limits.{symbols_limit}
use Rattle.outline.specs.Images.{size_at}
use Rattle.set_words.specs.Views.{right_by}
use Rattle.set_words.specs.Growth.{SetsTo}

pub record RightsTo (rows : List ℕ) (k : ℕ) (words : List ℕ) : Type 0 where
  pub short : (p : ℕ) → p < k → size_at rows p ≤ symbols_limit
  pub sets : SetsTo (right_by rows) k words
