-- The calls as a caller makes them: any bytes for a table, any program area, record, stacks, kinds and values. 01: "Order: 30, table, 33, 34, then the moves"; 02 (e): 38 "after 34"; 02 (h): 40 "after 33 and before 34"
use Rattle.std.specs.Prelude.{ℕ, suc, ◌-◌, true, false, List, [], ◌∷◌, ◌++◌, length, drop, take, ltb}
pub use Rattle.meaning.specs.Limits.{area_length}
use Rattle.meaning.specs.Grammar.{Grammar, TableBytes, Area, ProgramBuilder, TokenKinds, TokenValues, LentRegisters, LentPlaces}
use Rattle.meaning.specs.Table.{State, well_formed, malformed, read_table, grammar_of}
use Rattle.meaning.specs.Judgement.{Verdict, accepted, rejected, entry_offset}
use Rattle.meaning.specs.Decide.{judge}
use Rattle.meaning.specs.Program.{program_of}
use Rattle.meaning.specs.Listing.{Text, listing, refusal_line}
use Rattle.meaning.specs.Calls.{Record, Stacks, Called, Answer, refused, table_refused, closed_record, as_brought, open_of, feed_of, finish_of}

-- ---- the table of a call

-- accepted, with what was read; or refused with a number and an offset
pub data Checked : Type 0 where
  usable : State → Checked
  unusable : ℕ → ℕ → Checked

abbrev pub checked_as : State → Verdict → Checked
checked_as s accepted = usable s
checked_as s (rejected n o) = unusable n o

abbrev pub check : TableBytes → Checked
check bs = elim (read_table bs) [ malformed n o ↦ unusable n o | well_formed s ↦ checked_as s (judge s) ]

-- ---- the calls on a run

pub data Call : Type 0 where
  feed : TokenKinds → TokenValues → Call
  finish : Call

abbrev pub call_of : Grammar → Record → Stacks → Call → Called
call_of g r m (feed ks vs) = feed_of g r m ks vs
call_of g r m finish = finish_of g r m

-- 01: "writes it afresh .. words beyond the program are not touched"; of a buffer's bytes in House
abbrev pub written : List ℕ → List ℕ → List ℕ
written words area = words ++ drop (length words) area

-- what a call answers and leaves: the record handed back, the stacks and the program area
pub record Effect : Type 0 where
  pub answer : Answer
  pub state : Record
  pub stacks : Stacks
  pub area : Area

abbrev pub effect : Called → Area → Effect
effect k area = record { answer = k.answer; state = k.state; stacks = k.stacks; area = area }

-- 01: "each call that meets an accepted table writes it afresh, before 33 is judged. Its content depends on the table alone": `program` gives a grammar's words.
-- `brought` is the record that a refusal by 30 or by the table hands back, `made` what the call does under the table's grammar
abbrev pub called : ProgramBuilder → TableBytes → Area → Record → Stacks → (Grammar → Called) → Effect
called program bs area brought m made = elim (ltb (length area) area_length) [
  | true ↦ effect (as_brought (refused 30 0) brought m) area
  | false ↦ elim (check bs) [
    | unusable n o ↦ effect (as_brought (table_refused n o) brought m) area
    | usable s ↦ effect (made (grammar_of s)) (written (program (grammar_of s)) area)
  ]
]

-- 01: "the record comes back as brought, or closed and all zero from an opening"
abbrev pub opens : ProgramBuilder → TableBytes → Area → Stacks → Effect
opens program bs area m = called program bs area closed_record m (λ g. open_of g m)

abbrev pub performs : ProgramBuilder → TableBytes → Area → Record → Stacks → Call → Effect
performs program bs area r m c = called program bs area r m (λ g. call_of g r m c)

-- the stacks that a caller lends
abbrev pub stacks_of : LentRegisters → LentPlaces → Stacks
stacks_of vs ps = record { registers = vs; places = ps }

-- ---- the program of a table, for a caller that only wants it

-- turned back with 01's number and offset, or a program of so many words
pub data ProgramAnswer : Type 0 where
  turned : ℕ → ℕ → ProgramAnswer
  programmed : ℕ → ProgramAnswer

-- the answer, and the area afterwards
pub record Made : Type 0 where
  pub answer : ProgramAnswer
  pub area : Area

abbrev pub made : ProgramAnswer → Area → Made
made a area = record { answer = a; area = area }

-- 01: "Its content depends on the table alone .. and words beyond the program are not touched"
abbrev pub made_of : TableBytes → Area → Made
made_of bs area = elim (ltb (length area) area_length) [
  | true ↦ made (turned 30 0) area
  | false ↦ elim (check bs) [
    | unusable n o ↦ made (turned n o) area
    | usable s ↦ made (programmed (length (program_of (grammar_of s)))) (written (program_of (grammar_of s)) area)
  ]
]

-- ---- the stretch of a production

-- 01: "that production's stretch of the table itself, from its tag 3 to the next or the end; on a refusal an empty part, number and offset in two lent numbers"
pub record Stretch : Type 0 where
  pub part : TableBytes
  pub number : ℕ
  pub offset : ℕ

abbrev pub cut : TableBytes → ℕ → ℕ → TableBytes
cut bs from to = take (to - from) (drop from bs)

abbrev pub stretch_end : TableBytes → State → ℕ → ℕ
stretch_end bs s p = elim (ltb (suc p) (length s.entries)) [ true ↦ entry_offset s (suc p) | false ↦ length bs ]

-- n and o are what the two lent numbers held: on success they stay. 01: "14 no such production (offset 0)", "14 after them"
abbrev pub stretch_of : TableBytes → ℕ → ℕ → ℕ → Stretch
stretch_of bs p n o = elim (check bs) [
  | unusable k f ↦ record { part = []; number = k; offset = f }
  | usable s ↦ elim (ltb p (length s.entries)) [
    | true ↦ record { part = cut bs (entry_offset s p) (stretch_end bs s p); number = n; offset = o }
    | false ↦ record { part = []; number = 14; offset = 0 }
  ]
]

-- ---- the listing

abbrev pub joined : List Text → Text
joined [] = []
joined (x ∷ xs) = x ++ joined xs

-- 01: "reads a table from standard input and prints"; "A refusal is one line"
abbrev pub printed : TableBytes → Text
printed bs = elim (check bs) [ unusable n o ↦ refusal_line n o | usable s ↦ joined (listing (grammar_of s)) ]
