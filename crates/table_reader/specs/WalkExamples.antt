-- Worked rows for the walk over the fields.
use Rattle.std.specs.Prelude.{◌≡◌, refl, [], ◌∷◌, map}
use Rattle.meaning.specs.Examples.TableRows.{bytes}
use Rattle.table_fields.specs.Demand.{if_below}
use Rattle.table_fields.specs.Field.{length_at}
use Rattle.table_reader.specs.Fields.{productions_from, past}

-- 01's grammar of words and tags
words_and_tags : productions_from bytes 0 ≡ 17 ∷ 41 ∷ 68 ∷ 121 ∷ []
unfolding bytes productions_from if_below length_at
words_and_tags = refl

-- a 3 inside a body is no tag
not_in_a_body : productions_from (1 ∷ 0 ∷ 2 ∷ 3 ∷ 3 ∷ 3 ∷ 0 ∷ 1 ∷ 3 ∷ 3 ∷ 0 ∷ 0 ∷ []) 0 ≡ 5 ∷ 9 ∷ []
unfolding productions_from if_below length_at
not_in_a_body = refl

-- a terminal that carries a value is one more field to pass, also terminal 3
past_a_carrier : productions_from (2 ∷ 0 ∷ 2 ∷ 0 ∷ 1 ∷ 6 ∷ 0 ∷ 1 ∷ 3 ∷ 3 ∷ 0 ∷ 2 ∷ 0 ∷ 0 ∷ []) 0 ≡ 9 ∷ []
unfolding productions_from if_below length_at
past_a_carrier = refl

-- a field that is cut short is the last, and the table's end follows it
cut_short : productions_from (4 ∷ 0 ∷ 0 ∷ 3 ∷ 1 ∷ 0 ∷ 3 ∷ 3 ∷ []) 0 ≡ 3 ∷ []
unfolding productions_from if_below length_at
cut_short = refl

after_each : map (past (4 ∷ 0 ∷ 0 ∷ 3 ∷ 1 ∷ 0 ∷ 3 ∷ 3 ∷ [])) (0 ∷ 3 ∷ 7 ∷ 8 ∷ 9 ∷ []) ≡ 3 ∷ 8 ∷ 8 ∷ 8 ∷ 8 ∷ []
unfolding past if_below length_at
after_each = refl
