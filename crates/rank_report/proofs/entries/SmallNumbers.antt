-- Small numbers as signed words.
use Prim.Native.Nat.{ℕ, ◌^◌, ◌<◌}
use mathlib.Core.Path.{◌≡◌}
use lib.IntN.{pos}
use mir.Syntax.{w64}
use mir.Val.{to_z}
use mir.Facts.{to_z_pos}

pub back_word : (n : ℕ) → n < 2 ^ 63 → to_z w64 n ≡ pos n
back_word n h = to_z_pos w64 h
