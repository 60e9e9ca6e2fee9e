-- What comes next by its number, and what a place counts.
use Rattle.std.specs.Prelude.{◌≡◌, refl, [], ◌∷◌}
use Rattle.meaning.specs.Grammar.{token, over}
use Rattle.run_moves.specs.Moves.{passed}
use Rattle.run_moves.specs.Passing.{look_of}

a_token : look_of 7 ≡ token 7
a_token = refl

the_end : look_of 63 ≡ over
the_end = refl

-- a remove follows the symbol, or a test of one condition
passed_now : passed (5 ∷ []) 0 2 (32768 ∷ 256 ∷ 0 ∷ []) ≡ 32768 ∷ 257 ∷ 0 ∷ []
passed_now = refl

passed_later : passed (12 ∷ []) 0 2 (32768 ∷ 256 ∷ 0 ∷ []) ≡ 32768 ∷ 256 ∷ 0 ∷ []
passed_later = refl
