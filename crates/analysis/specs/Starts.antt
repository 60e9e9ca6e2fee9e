-- FIRST-then-FOLLOW over the tables that the code keeps.
use Rattle.std.specs.Prelude.{ℕ, Bool, true, List}
use Rattle.outline.specs.Images.{left_at, right_at}
use Rattle.set_words.specs.Views.{sees, opens}

-- that of production p, by tables of FIRST and FOLLOW
abbrev pub starts_by : (ℕ → Bool) → List ℕ → List ℕ → List ℕ → ℕ → ℕ → Bool
starts_by gone first follow rows p u = opens true gone (sees first u) u (sees follow u (left_at rows p)) (right_at rows p)
