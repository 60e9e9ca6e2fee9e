-- A call that is not turned back before its moves: after the opening of the grammar of words and tags.
use Rattle.std.specs.Prelude.{ℕ, refl, true, [], ◌∷◌, replicate}
use Rattle.std.proofs.Common.{arith}
use Rattle.std.proofs.lemmas.List.{length-replicate}
use Rattle.meaning_statements.specs.CallStatements.{Met}
use Rattle.meaning.specs.Examples.TableRows.{bytes}
use Rattle.meaning.specs.Examples.WordsAndTags.{words}
use Rattle.meaning.specs.Examples.CallRows.{m, state, stacks}
use Rattle.theory_answers.specs.FitTest.{fit_exactly}
use Rattle.theory_stars.specs.Runs.{words_accepted}

after_opening : Met bytes words (replicate 16384 5) (state true 0 0 1 1) (stacks (m ∷ m ∷ m ∷ []) (32768 ∷ 0 ∷ 0 ∷ []))
after_opening = record { long = omega (arith, length-replicate {A = ℕ} 16384 5); accepts = words_accepted; is_open = refl; fits = (fit_exactly words (state true 0 0 1 1) (stacks (m ∷ m ∷ m ∷ []) (32768 ∷ 0 ∷ 0 ∷ []))).0 tt }
