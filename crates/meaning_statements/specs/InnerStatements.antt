-- 02 (h), as statements: an inner run over an outer one. The proofs are in theory_inner and theory_demands.
use Rattle.std.specs.Prelude.{ℕ, ◌-◌, ◌≤◌, ◌<◌, ◌≡◌, ◌↔◌, ◌⊎◌, Bool, true, false, List, [], ◌∷◌, ◌++◌, map, length, drop, T, eqb, ℤ}
use Rattle.meaning.specs.Grammar.{Grammar, Token, nonterminal, syn, leaves, TableBytes, Area, ProgramBuilder, TokenKinds, TokenValues}
use Rattle.meaning.specs.Judgement.{Accepted, Judged, rejected}
use Rattle.meaning.specs.Machine.{opening}
use Rattle.meaning.specs.Tree.{Tree, TreeOf, value_of}
use Rattle.meaning.specs.Walk.{walk}
use Rattle.meaning.specs.Calls.{running, waiting, closed, Kind, outer, Record, is_open, Stacks, Called, Answer, more, value, refused, table_refused, closed_record, lent_of, lay_all, record_of}
use Rattle.meaning.specs.Fit.{Fit}
use Rattle.meaning.specs.PublicCalls.{Call, feed, finish, area_length, written, Effect, performs}
use Rattle.meaning_inner.specs.Inner.{above, below, paste, with_status, with_kind, alone, beginning, is_closed, InnerCall, engine, give_up, engine_call, ends, after_inner, InnerEffect, inner_effect, inner_opens, inner_performs}
use Rattle.meaning_inner.specs.InnerLists.{Alone, Both, opened_alone, both_of, CallWithTable, performs_alone, performs_inside, alone_after, alone_answers, inside_answers, inside, inner_run}
use Rattle.meaning_statements.specs.CallStatements.{among, is_table_number, engine_answer, Lendable, Even, Met, tokens_of, past_lent}
use Rattle.meaning_statements.specs.Statements.{History}
use Rattle.meaning.specs.Drawn.{WalkFits, drawn_record, drawn_stacks}

-- ==== which numbers an inner call may answer

-- what an opening of an inner run and a later inner call may answer
abbrev pub inner_opening_answer : Answer → Bool
inner_opening_answer (more n) = eqb n 0
inner_opening_answer (value v n) = false
inner_opening_answer (refused k n) = among (30 ∷ 31 ∷ 32 ∷ 33 ∷ 34 ∷ 40 ∷ []) k
inner_opening_answer (table_refused k o) = is_table_number k

abbrev pub inner_call_answer : InnerCall → Answer → Bool
inner_call_answer (engine c) a = engine_answer c a
inner_call_answer give_up (more n) = true
inner_call_answer give_up (value v n) = false
inner_call_answer give_up (refused k n) = among (30 ∷ 33 ∷ 34 ∷ []) k
inner_call_answer give_up (table_refused k o) = is_table_number k

-- for arbitrary bytes, areas, records, stacks, kinds and values
abbrev pub InnerAlwaysAnswers : Type 0
InnerAlwaysAnswers =
    ((program : ProgramBuilder) (outer_table inner_table : TableBytes) (area : Area) (r : Record) (m : Stacks) → T (inner_opening_answer (inner_opens program outer_table inner_table area r m).answer))
    × ((program : ProgramBuilder) (bs : TableBytes) (area : Area) (o i : Record) (m : Stacks) (c : InnerCall) → T (inner_call_answer c (inner_performs program bs area o i m c).answer))

-- ==== demand 1 for inner calls: those that are turned back, and what the others do. "exactly one numbered refusal with the record and lent memory stated for it"

abbrev pub both_back : Answer → Record → Record → Stacks → Area → InnerEffect
both_back a o i m area = record { answer = a; outer_state = o; inner_state = i; stacks = m; area = area }

-- the stacks of the inner run: what is left above the run r
abbrev pub left_over : Record → Stacks → Stacks
left_over r m = above (beginning r) m

-- an opening over the run r: 30, the outer table, 33, 40, 34, the inner table, 31, 32
pub data OpeningCase (outer_table inner_table : TableBytes) (area : Area) (r : Record) (m : Stacks) : Type 0 where
  short : length area < area_length → OpeningCase outer_table inner_table area r m
  bad_outer : area_length ≤ length area → (n f : ℕ) → Judged outer_table (rejected n f) → OpeningCase outer_table inner_table area r m
  outer_closed : area_length ≤ length area → (g : Grammar) → Accepted outer_table g → r.status ≡ closed → OpeningCase outer_table inner_table area r m
  -- the outer run waits, or is itself an inner one: a third run
  is_third : area_length ≤ length area → (g : Grammar) → Accepted outer_table g → (r.status ≡ closed → ⊥) → is_open r ≡ false → OpeningCase outer_table inner_table area r m
  unfit : area_length ≤ length area → (g : Grammar) → Accepted outer_table g → is_open r ≡ true → (Fit g r m → ⊥) → OpeningCase outer_table inner_table area r m
  bad_inner : (g : Grammar) → Met outer_table g area r m → (n f : ℕ) → Judged inner_table (rejected n f) → OpeningCase outer_table inner_table area r m
  no_register : (g : Grammar) → Met outer_table g area r m → (h : Grammar) → Accepted inner_table h → (lent_of (left_over r m)).max_registers < syn h (nonterminal h.start) → OpeningCase outer_table inner_table area r m
  no_place : (g : Grammar) → Met outer_table g area r m → (h : Grammar) → Accepted inner_table h → syn h (nonterminal h.start) ≤ (lent_of (left_over r m)).max_registers → (lent_of (left_over r m)).max_places < 1 → OpeningCase outer_table inner_table area r m
  is_opened : (g : Grammar) → Met outer_table g area r m → (h : Grammar) → Accepted inner_table h → syn h (nonterminal h.start) ≤ (lent_of (left_over r m)).max_registers → 1 ≤ (lent_of (left_over r m)).max_places → OpeningCase outer_table inner_table area r m

-- 02 (h): "an opening turned back sets no mark and hands back an inner record closed and all zero. The outer table's program is written first and the inner one's over it, in the same area; a refused inner table writes nothing further."
abbrev pub opening_effect : ProgramBuilder → (outer_table inner_table : TableBytes) (area : Area) (r : Record) (m : Stacks) → OpeningCase outer_table inner_table area r m → InnerEffect
opening_effect program outer_table inner_table area r m (short l) = both_back (refused 30 0) r closed_record m area
opening_effect program outer_table inner_table area r m (bad_outer l n f j) = both_back (table_refused n f) r closed_record m area
opening_effect program outer_table inner_table area r m (outer_closed l g a e) = both_back (refused 33 0) r closed_record m (written (program g) area)
opening_effect program outer_table inner_table area r m (is_third l g a e o) = both_back (refused 40 0) r closed_record m (written (program g) area)
opening_effect program outer_table inner_table area r m (unfit l g a o e) = both_back (refused 34 0) r closed_record m (written (program g) area)
opening_effect program outer_table inner_table area r m (bad_inner g x n f j) = both_back (table_refused n f) r closed_record m (written (program g) area)
opening_effect program outer_table inner_table area r m (no_register g x h a l) = both_back (refused 31 0) r closed_record m (written (program h) (written (program g) area))
opening_effect program outer_table inner_table area r m (no_place g x h a k l) = both_back (refused 32 0) r closed_record m (written (program h) (written (program g) area))
opening_effect program outer_table inner_table area r m (is_opened g x h a k l) =
    both_back (more 0) (with_status waiting r) (with_kind (beginning r) (record_of true (opening h))) (paste (beginning r) (lay_all h (opening h) (left_over r m)) m) (written (program h) (written (program g) area))

abbrev pub which_opening : {outer_table inner_table : TableBytes} {area : Area} {r : Record} {m : Stacks} → OpeningCase outer_table inner_table area r m → ℕ
which_opening (short l) = 1
which_opening (bad_outer l n f j) = 2
which_opening (outer_closed l g a e) = 3
which_opening (is_third l g a e o) = 4
which_opening (unfit l g a o e) = 5
which_opening (bad_inner g x n f j) = 6
which_opening (no_register g x h a l) = 7
which_opening (no_place g x h a k l) = 8
which_opening (is_opened g x h a k l) = 9

-- every opening is one of the nine, only that one, and does what is said of it
abbrev pub InnerOpenings : Type 0
InnerOpenings =
    (program : ProgramBuilder) (outer_table inner_table : TableBytes) (area : Area) (r : Record) (m : Stacks)
    → (x : OpeningCase outer_table inner_table area r m) × ((y : OpeningCase outer_table inner_table area r m) → (which_opening y ≡ which_opening x) × (inner_opens program outer_table inner_table area r m ≡ opening_effect program outer_table inner_table area r m y))

-- 02 (h): the outer run waits "at the heights where the inner run begins"; neither record is "of the wrong kind"
pub record Belongs (o i : Record) : Type 0 where
  pub waits : o.status ≡ waiting
  pub is_outer : o.kind ≡ outer
  pub runs : i.status ≡ running
  pub begins : i.kind ≡ beginning o

-- a later inner call: 30, the table, 33 and 34 by the records; otherwise it is the engine's call on the stretch, whose record is open: a 34 by the cells, a 38, or its moves, as `AllCases` says
pub data InnerCase (bs : TableBytes) (area : Area) (o i : Record) : Type 0 where
  too_short : length area < area_length → InnerCase bs area o i
  bad_table : area_length ≤ length area → (n f : ℕ) → Judged bs (rejected n f) → InnerCase bs area o i
  either_closed : area_length ≤ length area → (g : Grammar) → Accepted bs g → (o.status ≡ closed) ⊎ (i.status ≡ closed) → InnerCase bs area o i
  apart : area_length ≤ length area → (g : Grammar) → Accepted bs g → (o.status ≡ closed → ⊥) → (i.status ≡ closed → ⊥) → (Belongs o i → ⊥) → InnerCase bs area o i
  by_engine : area_length ≤ length area → (g : Grammar) → Accepted bs g → Belongs o i → InnerCase bs area o i

-- what the engine's call on the stretch answers and leaves, before anything is cleared
abbrev pub stretch_call : ProgramBuilder → TableBytes → Area → Record → Stacks → InnerCall → Effect
stretch_call program bs area i m c = performs program bs area (alone i) (above i.kind m) (engine_call c)

abbrev pub called_by : Effect → Called
called_by e = record { answer = e.answer; state = e.state; stacks = e.stacks }

abbrev pub inner_call_effect : ProgramBuilder → (bs : TableBytes) (area : Area) (o i : Record) (m : Stacks) → InnerCall → InnerCase bs area o i → InnerEffect
inner_call_effect program bs area o i m c (too_short l) = both_back (refused 30 0) o i m area
inner_call_effect program bs area o i m c (bad_table l n f j) = both_back (table_refused n f) o i m area
inner_call_effect program bs area o i m c (either_closed l g a e) = both_back (refused 33 0) o i m (written (program g) area)
inner_call_effect program bs area o i m c (apart l g a d e b) = both_back (refused 34 0) o i m (written (program g) area)
inner_call_effect program bs area o i m c (by_engine l g a b) = let e = stretch_call program bs area i m c in inner_effect (after_inner (ends c (called_by e)) o i m (called_by e)) e.area

abbrev pub which_inner : {bs : TableBytes} {area : Area} {o i : Record} → InnerCase bs area o i → ℕ
which_inner (too_short l) = 1
which_inner (bad_table l n f j) = 2
which_inner (either_closed l g a e) = 3
which_inner (apart l g a d e b) = 4
which_inner (by_engine l g a b) = 5

-- every later inner call is one of the five, only that one, and does what is said of it
abbrev pub InnerCalls : Type 0
InnerCalls =
    (program : ProgramBuilder) (bs : TableBytes) (area : Area) (o i : Record) (m : Stacks) (c : InnerCall)
    → (x : InnerCase bs area o i) × ((y : InnerCase bs area o i) → (which_inner y ≡ which_inner x) × (inner_performs program bs area o i m c ≡ inner_call_effect program bs area o i m c y))

-- ---- the lent memory outside the stretch

-- not written: the cells before the beginning, and those past what counts as lent
abbrev pub InnerNeverWritten : Type 0
InnerNeverWritten =
    ((program : ProgramBuilder) (outer_table inner_table : TableBytes) (area : Area) (r : Record) (m : Stacks) → let s = (inner_opens program outer_table inner_table area r m).stacks in (below (beginning r) s ≡ below (beginning r) m) × (past_lent s ≡ past_lent m))
    × ((program : ProgramBuilder) (bs : TableBytes) (area : Area) (o i : Record) (m : Stacks) (c : InnerCall) → let s = (inner_performs program bs area o i m c).stacks in (below i.kind s ≡ below i.kind m) × (past_lent s ≡ past_lent m))

-- an effect without the cells outside the stretch that begins at k
abbrev pub only_above : Kind → InnerEffect → InnerEffect
only_above k e = both_back e.answer e.outer_state e.inner_state (above k e.stacks) e.area

-- not read, 02 (h): "34 looks only at the inner stretch and what is above it": on stacks with the same stretch a later inner call does the same
abbrev pub InnerNeverRead : Type 0
InnerNeverRead =
    (program : ProgramBuilder) (bs : TableBytes) (area : Area) (o i : Record) (m n : Stacks) (c : InnerCall) → above i.kind m ≡ above i.kind n
    → only_above i.kind (inner_performs program bs area o i m c) ≡ only_above i.kind (inner_performs program bs area o i n c)

-- ==== a run alone, and the outer run

-- the inner run of b, which begins at k, stands as the run a does: record, cells while it is open, and whatever feed or finish comes next, its answer, the record that it hands back and, before anything is cleared, the cells
pub record AsAlone (program : ProgramBuilder) (k : Kind) (b : Both) (a : Alone) : Type 0 where
  pub is_record : b.inner_state ≡ with_kind k a.state
  pub is_stretch : is_open a.state ≡ true → above k b.stacks ≡ a.stacks
  pub answers : (s : CallWithTable Call) → (performs_inside program b (inside s)).answer ≡ (performs_alone program a s).answer
  pub hands_back : (s : CallWithTable Call) → (performs_inside program b (inside s)).inner_state ≡ with_kind k (performs_alone program a s).state
  pub is_before : is_open a.state ≡ true → (s : CallWithTable Call) → performs program s.table s.area (alone b.inner_state) (above b.inner_state.kind b.stacks) s.call ≡ performs_alone program a s

-- 02 (h): "It gives the value it would give alone on stacks as long as what is left." m₀ are any stacks of these lengths
abbrev pub InnerAlone : Type 0
InnerAlone =
    (program : ProgramBuilder) (outer_table inner_table : TableBytes) (area : Area) (r : Record) (m m₀ : Stacks) → (inner_opens program outer_table inner_table area r m).answer ≡ more 0
    → length m₀.registers ≡ (lent_of m).max_registers - r.register_height → length m₀.places ≡ (lent_of m).max_places - r.place_height
    → (ss : List (CallWithTable Call))
    → (inside_answers program (both_of (inner_opens program outer_table inner_table area r m)) (map inside ss) ≡ alone_answers program (opened_alone program inner_table area m₀) ss)
    × AsAlone program (beginning r) (inner_run program outer_table inner_table area r m (map inside ss)) (alone_after program (opened_alone program inner_table area m₀) ss)

-- below the beginning, and past what counts as lent, all cells are as they were; while the inner run is open the outer record waits; after its end record and stacks are as before the opening
pub record Kept (r : Record) (m : Stacks) (b : Both) : Type 0 where
  pub is_below : below (beginning r) b.stacks ≡ below (beginning r) m
  pub past_registers : drop (lent_of m).max_registers b.stacks.registers ≡ drop (lent_of m).max_registers m.registers
  pub past_places : drop (lent_of m).max_places b.stacks.places ≡ drop (lent_of m).max_places m.places
  pub waits : is_closed b.inner_state.status ≡ false → b.outer_state ≡ with_status waiting r
  pub restored : is_closed b.inner_state.status ≡ true → (b.outer_state ≡ r) × (b.stacks ≡ m)

-- 02 (h): "leaves the outer run's picture as before"; for any list of inner calls
abbrev pub OuterKept : Type 0
OuterKept =
    (program : ProgramBuilder) (outer_table inner_table : TableBytes) (area : Area) (r : Record) (m : Stacks) → (inner_opens program outer_table inner_table area r m).answer ≡ more 0
    → (ss : List (CallWithTable InnerCall)) → Kept r m (inner_run program outer_table inner_table area r m ss)

-- ordinary calls on the waiting outer run, and openings over it, are turned back and change nothing: between the calls of an inner run they count for nothing
abbrev pub WaitingTurnsBack : Type 0
WaitingTurnsBack =
    ((program : ProgramBuilder) (bs : TableBytes) (area : Area) (r : Record) (m : Stacks) (c : Call) → ((performs program bs area (with_status waiting r) m c).state ≡ with_status waiting r) × ((performs program bs area (with_status waiting r) m c).stacks ≡ m))
    × ((program : ProgramBuilder) (outer_table inner_table : TableBytes) (area : Area) (r : Record) (m : Stacks)
    → ((inner_opens program outer_table inner_table area (with_status waiting r) m).outer_state ≡ with_status waiting r) × ((inner_opens program outer_table inner_table area (with_status waiting r) m).stacks ≡ m))

-- ==== lists of inner calls

-- the lists of inner calls that start with an opening over r and m, with the inner table bs, that was not turned back: the tokens fed, with their values, whether a finish counted, both records and the stacks now.
-- Any inner call, with any table and area, that changes nothing counts for nothing.
pub data InsideHistory (program : ProgramBuilder) (outer_table bs : TableBytes) (r : Record) (m : Stacks) : List Token → Bool → Both → Type 0 where
  begins : (area : Area) → (inner_opens program outer_table bs area r m).answer ≡ more 0 → InsideHistory program outer_table bs r m [] false (both_of (inner_opens program outer_table bs area r m))
  passes : {ts : List Token} {is_over : Bool} {b : Both} (s : CallWithTable InnerCall) → InsideHistory program outer_table bs r m ts is_over b → both_of (performs_inside program b s) ≡ b → InsideHistory program outer_table bs r m ts is_over b
  feeds : {ts : List Token} {b : Both} (area : Area) (ks : TokenKinds) (vs : TokenValues) → Lendable (feed ks vs) → Even (feed ks vs) → InsideHistory program outer_table bs r m ts false b → area_length ≤ length area → is_open (alone b.inner_state) ≡ true
      → InsideHistory program outer_table bs r m (ts ++ tokens_of (feed ks vs)) false (both_of (performs_inside program b (record { table = bs; area = area; call = engine (feed ks vs) })))
  finishes : {ts : List Token} {b : Both} (area : Area) → InsideHistory program outer_table bs r m ts false b → area_length ≤ length area → is_open (alone b.inner_state) ≡ true
      → InsideHistory program outer_table bs r m ts true (both_of (performs_inside program b (record { table = bs; area = area; call = engine finish })))

-- 02 (h): "Demand 3 holds for the inner run on its stretch read as stacks of its own": its list is a list of calls of a run alone on any stacks as long as what is left, with the same record and, while it is open, the same cells
abbrev pub InsideAlone : Type 0
InsideAlone =
    (program : ProgramBuilder) (outer_table bs : TableBytes) (r : Record) (m m₀ : Stacks)
    → length m₀.registers ≡ (lent_of m).max_registers - r.register_height → length m₀.places ≡ (lent_of m).max_places - r.place_height
    → (ts : List Token) (is_over : Bool) (b : Both) → InsideHistory program outer_table bs r m ts is_over b
    → (a : Alone) × History program bs m₀ ts is_over a.state a.stacks × AsAlone program (beginning r) b a

-- what this comes to for the picture before the finish
abbrev pub InsidePicture : Type 0
InsidePicture =
    (program : ProgramBuilder) (outer_table bs : TableBytes) (g : Grammar) (r : Record) (m : Stacks) (ts us : List Token) (b : Both) (t : Tree)
    → Accepted bs g → InsideHistory program outer_table bs r m ts false b
    → TreeOf g (leaves g (ts ++ us)) t → WalkFits g (lent_of (above (beginning r) m)) t
    → (b.inner_state ≡ with_kind (beginning r) (drawn_record g t (length ts) false)) × (above (beginning r) b.stacks ≡ drawn_stacks g t (length ts) false (above (beginning r) m))

-- and for the finish: its answer; and where there is a tree, the record that it hands back and, "before that clearing", the cells of the stretch
abbrev pub InsideFinish : Type 0
InsideFinish =
    (program : ProgramBuilder) (outer_table bs : TableBytes) (area : Area) (g : Grammar) (r : Record) (m : Stacks) (ts : List Token) (b : Both) (t : Tree)
    → Accepted bs g → area_length ≤ length area → InsideHistory program outer_table bs r m ts false b
    → TreeOf g (leaves g ts) t → WalkFits g (lent_of (above (beginning r) m)) t
    → ((inner_performs program bs area b.outer_state b.inner_state b.stacks (engine finish)).answer ≡ value (value_of g t) (length (walk g t)))
    × ((inner_performs program bs area b.outer_state b.inner_state b.stacks (engine finish)).inner_state ≡ with_kind (beginning r) (drawn_record g t (length ts) true))
    × ((performs program bs area (alone b.inner_state) (above b.inner_state.kind b.stacks) finish).stacks ≡ drawn_stacks g t (length ts) true (above (beginning r) m))

-- and a value only there
abbrev pub InsideValue : Type 0
InsideValue =
    (program : ProgramBuilder) (outer_table bs : TableBytes) (area : Area) (g : Grammar) (r : Record) (m : Stacks) (ts : List Token) (b : Both) → Accepted bs g → area_length ≤ length area
    → InsideHistory program outer_table bs r m ts false b → (v : ℤ) (n : ℕ)
    → ((inner_performs program bs area b.outer_state b.inner_state b.stacks (engine finish)).answer ≡ value v n)
    ↔ ((t : Tree) × TreeOf g (leaves g ts) t × WalkFits g (lent_of (above (beginning r) m)) t × (value_of g t ≡ v) × (length (walk g t) ≡ n))
