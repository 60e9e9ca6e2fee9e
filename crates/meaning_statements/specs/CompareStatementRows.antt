-- 02 (j): a cycle with a negative sum by way of the limits of values.
use Rattle.std.specs.Prelude.{ℕ, refl, List, [], ◌∷◌, ℤ, negsuc}
use Rattle.std.proofs.Common.{inl}
use Rattle.std.proofs.Math.Option.{some}
use Rattle.std.specs.Int.Signed.{lt_z_yes}
use Rattle.meaning.specs.Grammar.{Condition, atmost}
use Rattle.meaning.specs.Differences.{bound}
use Rattle.meaning_statements.specs.CompareStatements.{NegativeCycle, highest_edge, lowest_edge, atmost_edge, step, join}

-- the limits of values count too
abbrev pub far : ℤ → List (Condition ℕ)
far c = atmost 1 2 (some c) ∷ []

cycle_of_limits : NegativeCycle 2 (far (negsuc 2000000000000))
unfolding bound
cycle_of_limits = record {
  node = 1;
  sum = negsuc 0;
  walk = join (step (atmost_edge 1 2 (some (negsuc 2000000000000)) (inl refl))) (join (step (highest_edge 2)) (step (lowest_edge 1)));
  negative = lt_z_yes tt;
}
