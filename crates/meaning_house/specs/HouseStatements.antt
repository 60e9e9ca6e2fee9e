-- What 02 (a) promises of the writer: what is written, what is turned back, that tables "come out byte for byte alike", that "doing it a second time alters nothing", and that "every segment keeps its value or refusal under the written table".
use Rattle.std.specs.Prelude.{ℕ, ◌≤◌, ◌<◌, ◌≡◌, ◌↔◌, length, take, drop}
use Rattle.meaning.specs.Grammar.{Grammar, TableBytes, Area, ProgramBuilder, ByteBuffer}
use Rattle.meaning.specs.Layout.{Bytes}
use Rattle.meaning.specs.Judgement.{Accepted, rejected}
use Rattle.meaning.specs.Decide.{verdict_of}
use Rattle.meaning.specs.Calls.{Record, Stacks}
use Rattle.meaning.specs.PublicCalls.{Call, Effect, opens, performs}
use Rattle.meaning_inner.specs.Inner.{InnerCall, InnerEffect, inner_opens, inner_performs}
use Rattle.meaning_house.specs.Order.{SameButOrder, house_grammar, house_bytes}
use Rattle.meaning_house.specs.House.{wrote, turned_back, house_of}

-- the table written, where the buffer is long enough: its bytes, its length, and not a byte more
abbrev pub HouseWrites : Type 0
HouseWrites = (bs : TableBytes) (g : Grammar) (buffer : ByteBuffer) → Accepted bs g → length (house_bytes g) ≤ length buffer
    → ((house_of bs buffer).answer ≡ wrote (length (house_bytes g))) × (take (length (house_bytes g)) (house_of bs buffer).buffer ≡ house_bytes g) × (drop (length (house_bytes g)) (house_of bs buffer).buffer ≡ drop (length (house_bytes g)) buffer)

-- on a refusal not a byte changes: the table's own, with its offset, then 36, with 0
abbrev pub HouseTurnsBack : Type 0
HouseTurnsBack =
    ((bs : TableBytes) (buffer : ByteBuffer) (n o : ℕ) → verdict_of bs ≡ rejected n o → house_of bs buffer ≡ record { answer = turned_back n o; buffer = buffer })
    × ((bs : TableBytes) (g : Grammar) (buffer : ByteBuffer) → Accepted bs g → length buffer < length (house_bytes g) → house_of bs buffer ≡ record { answer = turned_back 36 0; buffer = buffer })

-- it is a table, an accepted one, of a grammar that is the same but for order, and never longer
pub record InHouse (bs : TableBytes) (g : Grammar) : Type 0 where
  pub bytes : Bytes (house_bytes g)
  pub accepts : Accepted (house_bytes g) (house_grammar g)
  pub same : SameButOrder g (house_grammar g)
  pub short : length (house_bytes g) ≤ length bs

abbrev pub HouseAccepted : Type 0
HouseAccepted = (bs : TableBytes) (g : Grammar) → Bytes bs → Accepted bs g → InHouse bs g

-- 02: "Tables that differ only in such order or duplicates come out byte for byte alike", and no others do
abbrev pub HouseAlike : Type 0
HouseAlike = (bs cs : TableBytes) (g h : Grammar) → Bytes bs → Bytes cs → Accepted bs g → Accepted cs h → (house_bytes g ≡ house_bytes h) ↔ SameButOrder g h

abbrev pub HouseAlikeCalls : Type 0
HouseAlikeCalls = (bs cs : TableBytes) (g h : Grammar) (buffer : ByteBuffer) → Bytes bs → Accepted bs g → Accepted cs h → SameButOrder g h → house_of bs buffer ≡ house_of cs buffer

-- 02: "Doing it a second time alters nothing"
abbrev pub HouseTwice : Type 0
HouseTwice = (bs : TableBytes) (g : Grammar) (buffer : ByteBuffer) → Bytes bs → Accepted bs g → house_of (house_bytes g) buffer ≡ house_of bs buffer

-- the same answer, record and stacks; the program's words may differ
pub record SameButProgram (e f : Effect) : Type 0 where
  pub answer : e.answer ≡ f.answer
  pub state : e.state ≡ f.state
  pub stacks : e.stacks ≡ f.stacks

-- 02: "every segment keeps its value or refusal under the written table": for arbitrary areas, records, stacks and tokens
abbrev pub HouseKeeps : Type 0
HouseKeeps = (program : ProgramBuilder) (bs : TableBytes) (g : Grammar) (area : Area) (m : Stacks) → Bytes bs → Accepted bs g
    → SameButProgram (opens program bs area m) (opens program (house_bytes g) area m)
    × ((r : Record) (c : Call) → SameButProgram (performs program bs area r m c) (performs program (house_bytes g) area r m c))

-- the same of a call on two records
pub record SameBothButProgram (e f : InnerEffect) : Type 0 where
  pub answer : e.answer ≡ f.answer
  pub outer_state : e.outer_state ≡ f.outer_state
  pub inner_state : e.inner_state ≡ f.inner_state
  pub stacks : e.stacks ≡ f.stacks

-- and so does every inner run (02 (h)), and every run that waits for one: the table as the outer or the inner one of an opening, and in each later inner call
abbrev pub HouseKeepsInner : Type 0
HouseKeepsInner = (program : ProgramBuilder) (bs : TableBytes) (g : Grammar) (area : Area) (m : Stacks) → Bytes bs → Accepted bs g
    → ((inner_table : TableBytes) (r : Record) → SameBothButProgram (inner_opens program bs inner_table area r m) (inner_opens program (house_bytes g) inner_table area r m))
    × ((outer_table : TableBytes) (r : Record) → SameBothButProgram (inner_opens program outer_table bs area r m) (inner_opens program outer_table (house_bytes g) area r m))
    × ((o i : Record) (c : InnerCall) → SameBothButProgram (inner_performs program bs area o i m c) (inner_performs program (house_bytes g) area o i m c))
