-- Spans of a table, and the part of it that each is.
use Rattle.std.specs.Prelude.{ℕ, suc, ◌≤◌, ◌<◌, true, false, List, [], Result, Ok, Err, ltb, length}
use Rattle.meaning.specs.Limits.{table_limit}
use Rattle.meaning.specs.PublicCalls.{Stretch, cut}
use Rattle.table_reader.specs.Fields.{nth_production}
use Rattle.refusals.specs.Numbers.{fault_number}
use Rattle.refusals.specs.declared.TableRefusal.{TableRefusal}
use Rattle.table_reader.specs.declared.Stretch as Reader
use Rattle.checker_span.specs.declared.RefusedAs.{RefusedAs}

-- from one offset to another, or a refusal by its number
pub data Span : Type 0 where
  Within : ℕ → ℕ → Span
  Nowhere : ℕ → ℕ → Span

-- the span that an answer is
abbrev pub span_is : Result Reader.Stretch TableRefusal → Span
span_is (Ok s) = Within s.from s.to
span_is (Err r) = Nowhere (fault_number r.fault) r.offset

-- the number and the offset of a refusal of ours
abbrev pub refused_as : TableRefusal → RefusedAs
refused_as r = record { number = fault_number r.fault; offset = r.offset }

-- the span that an answer is, whatever says by which number and at which offset a table is refused. By `refused_as` it is `span_is`
abbrev pub span_by : {R : Type 0} → (R → RefusedAs) → Result Reader.Stretch R → Span
span_by f (Ok s) = Within s.from s.to
span_by f (Err r) = Nowhere (f r).number (f r).offset

-- the part handed back and what the two lent numbers then hold
abbrev pub stretch_is : List ℕ → ℕ → ℕ → Stretch
stretch_is part number offset = record { part = part; number = number; offset = offset }

-- the stretch that each span is, where the two lent numbers held n and o
abbrev pub stretch_by : List ℕ → Span → ℕ → ℕ → Stretch
stretch_by t (Within from to) n o = stretch_is (cut t from to) n o
stretch_by t (Nowhere number offset) n o = stretch_is [] number offset

-- a span lies in the table, which is no longer than 01 allows, and is not empty
abbrev pub Inside : List ℕ → Span → Type 0
Inside t (Within from to) = (from < to) × (to ≤ length t) × (to ≤ table_limit)
Inside t (Nowhere number offset) = Unit {0}

-- the span of production p of n, by the tag 3 fields
unfoldable pub span_in : List ℕ → ℕ → ℕ → Span
span_in t n p = elim (ltb p n) [ true ↦ Within (nth_production t 0 p) (nth_production t 0 (suc p)) | false ↦ Nowhere 14 0 ]
