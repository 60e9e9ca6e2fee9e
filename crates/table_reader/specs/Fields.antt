-- The fields of a table in their order, walked by their lengths. 01: "fields: one-byte tag, two-byte length, body"
use Rattle.std.specs.Prelude.{ℕ, zero, suc, ◌+◌, ◌-◌, List, [], ◌∷◌, map, get_or, length, eqb}
use Rattle.meaning.specs.Base.{keep}
use Rattle.meaning.specs.Table.{byte, Field}
use Rattle.table_fields.specs.Demand.{if_below}
use Rattle.table_fields.specs.Field.{length_at, body_at}

abbrev pub field_at : List ℕ → ℕ → Field
field_at t at = record { offset = at; tag = byte t at; body = body_at t at (length_at t at) }

-- the fields from an offset on, where n is more than the bytes left; one that is cut short is the last, with the body that is there
abbrev pub fields_from : ℕ → List ℕ → ℕ → List Field
fields_from zero t at = []
fields_from (suc n) t at = if_below at (length t) (field_at t at ∷ fields_from n t (at + 3 + length_at t at)) []

-- the offsets of the tag 3 fields among fields
abbrev pub productions_in : List Field → List ℕ
productions_in fs = map (λ f. f.offset) (keep (λ f. eqb f.tag 3) fs)

-- the offsets of the tag 3 fields from an offset on
unfoldable pub productions_from : List ℕ → ℕ → List ℕ
productions_from t at = productions_in (fields_from (suc (length t - at)) t at)

-- the first of them after n others; the table's end where there are no more than n
abbrev pub nth_production : List ℕ → ℕ → ℕ → ℕ
nth_production t at n = get_or (productions_from t at) n (length t)

-- the offset after the field at an offset; the table's end where it is cut short
unfoldable pub past : List ℕ → ℕ → ℕ
past t at = if_below (length t) (at + 3 + length_at t at) (length t) (at + 3 + length_at t at)
