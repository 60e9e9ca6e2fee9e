use Prim.Native.Nat.{ℕ, ◌≤◌, ◌+◌, ◌*◌, ◌-◌}
use mathlib.Core.Path.{◌≡◌}
use mathlib.Core.List.{List}
use lib.ListN.{length}
use Rattle.program_block_words.specs.Patch.{patch}
use Rattle.program_words.specs.Directory.{zeros}
use Rattle.meaning.specs.Limits.{area_length}
use Rattle.program_words.specs.Sections as S
use Rattle.program.proofs.directory.write_directory.Given as goal

abbrev pub invariant-loop-p : goal.invariant-loop-p
invariant-loop-p l = (old : List ℕ) → area_length ≤ length old → l.initial.area ≡ patch old 9 (zeros (9 + 64 * l.nonterminals - 9)) → S.DirectoryGo l.rows l.sets l.nonterminals l.count old l.p l.area
