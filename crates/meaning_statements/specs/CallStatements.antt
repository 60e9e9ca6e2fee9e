-- Demand 1, as statements. "Arbitrary bytes as a table, arbitrary tokens, arbitrary record and stacks: each call gives what it is for, or exactly one numbered refusal with the record and lent memory stated for it, and ends."
-- Each is a type; its proof, in theory_demands, is a value of it. (That each call ends is the definitions' own: each of them is a function that the checker shows to end.)
use Rattle.std.specs.Prelude.{ℕ, ◌≤◌, ◌<◌, ◌≡◌, ◌↔◌, ◌⊎◌, Bool, true, false, ◌||◌, List, [], ◌∷◌, ◌++◌, length, take, drop, T, eqb}
use Rattle.meaning.specs.Base.{any, all, In}
use Rattle.meaning.specs.Limits.{registers_limit, places_limit}
use Rattle.meaning.specs.Grammar.{Grammar, Token, Leaf, nonterminal, Rule, Condition, syn, leaves, production_at, TableBytes, Area, ProgramBuilder}
use Rattle.meaning.specs.Rules.{Operands, Reads, four_bytes}
use Rattle.meaning.specs.Judgement.{Accepted, Judged, rejected}
use Rattle.meaning.specs.Value.{in_range}
use Rattle.meaning.specs.Scheme.{Instruction, add, evaluate, expect, test, remove, entry_tests}
use Rattle.meaning.specs.Machine.{Frame, Config, Lent, Coming, comes, ends, blocked, opening, next, waits, is_finished, read_register, moves_limit, tokens_limit}
use Rattle.meaning.specs.Tree.{is_leaf_of}
use Rattle.meaning.specs.Walk.{Act, Makes}
use Rattle.meaning.specs.Calls.{waiting, closed, outer, Record, is_open, Stacks, Answer, more, value, refused, table_refused, closed_record, lent_of, record_of, lay_all, config_of, stacks_fit, result, tokens_from}
use Rattle.meaning.specs.Fit.{Fit}
use Rattle.meaning.specs.PublicCalls.{Call, feed, finish, area_length, written, Effect, opens, performs}

-- ==== which numbers a call may answer

abbrev pub among : List ℕ → ℕ → Bool
among ns n = any (eqb n) ns

abbrev pub is_table_number : ℕ → Bool
is_table_number n = among (1 ∷ 2 ∷ 3 ∷ 4 ∷ 5 ∷ 6 ∷ 7 ∷ 8 ∷ 9 ∷ 10 ∷ 11 ∷ 12 ∷ 13 ∷ []) n

-- what an opening, and a feed and a finish on a run of their own, may answer
abbrev pub opening_answer : Answer → Bool
opening_answer (more n) = eqb n 0
opening_answer (value v n) = false
opening_answer (refused k n) = among (30 ∷ 31 ∷ 32 ∷ []) k
opening_answer (table_refused k o) = is_table_number k

abbrev pub engine_answer : Call → Answer → Bool
engine_answer (feed ks vs) (more n) = true
engine_answer (feed ks vs) (value v n) = false
engine_answer (feed ks vs) (refused k n) = among (20 ∷ 21 ∷ 22 ∷ 23 ∷ 30 ∷ 31 ∷ 32 ∷ 33 ∷ 34 ∷ 35 ∷ 38 ∷ []) k
engine_answer (feed ks vs) (table_refused k o) = is_table_number k
engine_answer finish (more n) = false
engine_answer finish (value v n) = in_range v
engine_answer finish (refused k n) = among (22 ∷ 23 ∷ 24 ∷ 30 ∷ 31 ∷ 32 ∷ 33 ∷ 34 ∷ 35 ∷ []) k
engine_answer finish (table_refused k o) = is_table_number k

-- 02 (h): "A call on the waiting outer run .. is turned back as 40"
abbrev pub is_forty : Answer → Bool
is_forty (more n) = false
is_forty (value v n) = false
is_forty (refused k n) = eqb k 40
is_forty (table_refused k o) = false

abbrev pub call_answer : Call → Answer → Bool
call_answer c a = engine_answer c a || is_forty a

-- "Arbitrary bytes as a table, arbitrary tokens, arbitrary record and stacks"
abbrev pub AlwaysAnswers : Type 0
AlwaysAnswers =
    ((program : ProgramBuilder) (bs : TableBytes) (area : Area) (m : Stacks) → T (opening_answer (opens program bs area m).answer))
    × ((program : ProgramBuilder) (bs : TableBytes) (area : Area) (r : Record) (m : Stacks) (c : Call)
    → T (call_answer c (performs program bs area r m c).answer))

-- ==== calls that are turned back before their moves, and openings: "exactly one numbered refusal with the record and lent memory stated for it"

abbrev pub handed_back : Answer → Record → Stacks → Area → Effect
handed_back a r m area = record { answer = a; state = r; stacks = m; area = area }

-- 30, before all else: nothing is written; the record comes back as brought, or closed and all zero from an opening
abbrev pub ShortArea : Type 0
ShortArea =
    (program : ProgramBuilder) (bs : TableBytes) (area : Area) (r : Record) (m : Stacks) (c : Call) → length area < area_length
    → (opens program bs area m ≡ handed_back (refused 30 0) closed_record m area) × (performs program bs area r m c ≡ handed_back (refused 30 0) r m area)

-- then the table: its own verdict's number and offset, nothing is written
abbrev pub BadTable : Type 0
BadTable =
    (program : ProgramBuilder) (bs : TableBytes) (area : Area) (r : Record) (m : Stacks) (c : Call) (n o : ℕ)
    → area_length ≤ length area → Judged bs (rejected n o)
    → (opens program bs area m ≡ handed_back (table_refused n o) closed_record m area) × (performs program bs area r m c ≡ handed_back (table_refused n o) r m area)

-- then 33, 40 and 34: record and stacks as brought, the program written.
-- 02 (h): "A call on the waiting outer run .. is turned back as 40, after 33 and before 34. Otherwise .. a record of the wrong kind is a 34"
abbrev pub BadState : Type 0
BadState =
    (program : ProgramBuilder) (bs : TableBytes) (area : Area) (g : Grammar) (r : Record) (m : Stacks) (c : Call) → area_length ≤ length area → Accepted bs g
    → (r.status ≡ closed → performs program bs area r m c ≡ handed_back (refused 33 0) r m (written (program g) area))
    × (r.status ≡ waiting → r.kind ≡ outer → performs program bs area r m c ≡ handed_back (refused 40 0) r m (written (program g) area))
    × ((r.status ≡ closed → ⊥) → (r.kind ≡ outer → ⊥) → performs program bs area r m c ≡ handed_back (refused 34 0) r m (written (program g) area))
    × (is_open r ≡ true → (Fit g r m → ⊥) → performs program bs area r m c ≡ handed_back (refused 34 0) r m (written (program g) area))

-- an opening under an accepted table: 31 where the start symbol's results have no room, then 32 where no place is lent; otherwise it "gives what it is for". (Said of any engine, as the moves below: so it can be shown which engines it excludes)
abbrev pub OpeningOf : (ProgramBuilder → TableBytes → Area → Stacks → Effect) → Type 0
OpeningOf engine =
    (program : ProgramBuilder) (bs : TableBytes) (area : Area) (g : Grammar) (m : Stacks) → area_length ≤ length area → Accepted bs g
    → ((lent_of m).max_registers < syn g (nonterminal g.start) → engine program bs area m ≡ handed_back (refused 31 0) closed_record m (written (program g) area))
    × (syn g (nonterminal g.start) ≤ (lent_of m).max_registers → (lent_of m).max_places < 1 → engine program bs area m ≡ handed_back (refused 32 0) closed_record m (written (program g) area))
    × (syn g (nonterminal g.start) ≤ (lent_of m).max_registers → 1 ≤ (lent_of m).max_places → engine program bs area m ≡ handed_back (more 0) (record_of true (opening g)) (lay_all g (opening g) m) (written (program g) area))

abbrev pub Opening : Type 0
Opening = OpeningOf opens

-- 34 is the declarative one
abbrev pub FitExactly : Type 0
FitExactly = (g : Grammar) (r : Record) (m : Stacks) → T (stacks_fit g r m) ↔ Fit g r m

-- ---- then 38

-- 02 (e): "a kind and a signed 32-bit value": the type of the values that a caller lends. (The definitions take any whole number)
abbrev pub Lendable : Call → Type 0
Lendable (feed ks vs) = T (all four_bytes vs)
Lendable finish = Unit {0}

-- as many values as kinds
abbrev pub Even : Call → Type 0
Even (feed ks vs) = length ks ≡ length vs
Even finish = Unit {0}

-- a call that is not turned back by 30, its table, 33, 40 or 34
pub record Met (bs : TableBytes) (g : Grammar) (area : Area) (r : Record) (m : Stacks) : Type 0 where
  pub long : area_length ≤ length area
  pub accepts : Accepted bs g
  pub is_open : is_open r ≡ true
  pub fits : Fit g r m

-- 02 (e): "Lists of unequal length are turned back as 38, after 34 .. and before 31, 32 or any move": record and stacks as brought, the program written
abbrev pub UnevenLists : Type 0
UnevenLists =
    (program : ProgramBuilder) (bs : TableBytes) (area : Area) (g : Grammar) (r : Record) (m : Stacks) (c : Call) → Met bs g area r m → (Even c → ⊥)
    → performs program bs area r m c ≡ handed_back (refused 38 0) r m (written (program g) area)

-- ==== calls that are not: their moves

abbrev pub tokens_of : Call → List Token
tokens_of (feed ks vs) = tokens_from ks vs
tokens_of finish = []

-- what may come behind these tokens: after a feed anything, after a finish nothing
abbrev pub Follows : Call → List Leaf → Type 0
Follows (feed ks vs) = λ us. Unit {0}
Follows finish = λ us. us ≡ []

abbrev pub stays_open : Answer → Bool
stays_open (more n) = true
stays_open (value v n) = false
stays_open (refused k n) = false
stays_open (table_refused k o) = false

-- moves on these tokens that lead from c to d with `left` still to come, and none of which has looked at what is left
pub record Unseen (g : Grammar) (lent : Lent) (tokens : List Leaf) (c : Config) (moves : List Act) (left : List Leaf) (d : Config) : Type 0 where
  pub read : List Leaf
  pub split : tokens ≡ read ++ left
  pub made : (us : List Leaf) → Makes g lent (read ++ us) c moves us d

-- why a call whose moves lead from c to d, with `left` still to come, is refused by k. Behind is what may come behind its tokens
pub data Refuses (g : Grammar) (lent : Lent) (Behind : List Leaf → Type 0) (tokens : List Leaf) (c : Config) (moves : List Act) (left : List Leaf) (d : Config) (k : ℕ) : Type 0 where
  -- 01: "35 a token after 65,535"
  too_many : k ≡ 35 → (t : Leaf) (us : List Leaf) → left ≡ t ∷ us → d.tokens ≡ tokens_limit → T (waits d.frames) → Unseen g lent tokens c moves left d → Refuses g lent Behind tokens c moves left d k
  -- 01: "20 token not below T, judged before its moves"
  not_token : k ≡ 20 → (t : Leaf) (us : List Leaf) → left ≡ t ∷ us → d.tokens < tokens_limit → g.terminals ≤ t.kind → T (waits d.frames) → Unseen g lent tokens c moves left d → Refuses g lent Behind tokens c moves left d k
  -- the move at hand is blocked by k: for the next token, which was let through; for the end, the start symbol not being left; or one that needs neither
  at_token : (t : Leaf) (us : List Leaf) → left ≡ t ∷ us → d.tokens < tokens_limit → t.kind < g.terminals → next g lent (comes t) d ≡ blocked k → Refuses g lent Behind tokens c moves left d k
  at_end : left ≡ [] → is_finished d ≡ false → ((us : List Leaf) → Behind us → us ≡ []) → next g lent ends d ≡ blocked k → Refuses g lent Behind tokens c moves left d k
  between : waits d.frames ≡ false → Unseen g lent tokens c moves left d → ((l : Coming) → next g lent l d ≡ blocked k) → Refuses g lent Behind tokens c moves left d k

-- what each answer says of the moves from c to d.
-- 01: "The answer carries the moves made since opening"; "Everything that needs no next token is done before a stop"; a refusal of the segment carries the tokens read
abbrev pub Says : Grammar → Lent → Call → Config → List Act → List Leaf → Config → Answer → Type 0
Says g lent call c moves left d (more n) = (left ≡ []) × T (waits d.frames) × (n ≡ d.moves)
Says g lent call c moves left d (value v n) = T (is_finished d) × (v ≡ result g d) × (n ≡ d.moves)
Says g lent call c moves left d (refused k o) = (o ≡ d.tokens) × Refuses g lent (Follows call) (leaves g (tokens_of call)) c moves left d k
Says g lent call c moves left d (table_refused k o) = ⊥

-- the moves of a call: what it leaves is the configuration that they lead to, whatever the answer. 01: "The failing move changes nothing, earlier ones stand, the record is closed."
pub record MovesTo (program : ProgramBuilder) (area : Area) (g : Grammar) (m : Stacks) (c : Config) (call : Call) (e : Effect) : Type 0 where
  pub moves : List Act
  pub left : List Leaf
  pub to : Config
  -- no move of a feed looks past its tokens
  pub made : (us : List Leaf) → Follows call us → Makes g (lent_of m) (leaves g (tokens_of call) ++ us) c moves (left ++ us) to
  -- 01: "35 a token after 65,535"
  pub few : to.tokens ≤ tokens_limit
  pub says : Says g (lent_of m) call c moves left to e.answer
  pub is_record : e.state ≡ record_of (stays_open e.answer) to
  pub is_stacks : e.stacks ≡ lay_all g to m
  pub is_area : e.area ≡ written (program g) area
  -- what a call leaves open, the next call reads back
  pub read_back_value : stays_open e.answer ≡ true → Fit g e.state e.stacks × (config_of g e.state e.stacks ≡ to)

abbrev pub CallsMoveOf : (ProgramBuilder → TableBytes → Area → Record → Stacks → Call → Effect) → Type 0
CallsMoveOf engine =
    (program : ProgramBuilder) (bs : TableBytes) (area : Area) (g : Grammar) (r : Record) (m : Stacks) (c : Call) → Lendable c → Even c → Met bs g area r m
    → MovesTo program area g m (config_of g r m) c (engine program bs area r m c)

abbrev pub CallsMove : Type 0
CallsMove = CallsMoveOf performs

-- "exactly one": whatever answers as a call may and does what is said of its moves is the call's own effect
abbrev pub MovesOnce : Type 0
MovesOnce =
    (program : ProgramBuilder) (bs : TableBytes) (area : Area) (g : Grammar) (r : Record) (m : Stacks) (c : Call) → Lendable c → Even c → Met bs g area r m
    → (e : Effect) → T (call_answer c e.answer) → MovesTo program area g m (config_of g r m) c e → e ≡ performs program bs area r m c

-- ==== these are all: "each call gives what it is for, or exactly one numbered refusal"

pub data Case (bs : TableBytes) (area : Area) (r : Record) (m : Stacks) (c : Call) : Type 0 where
  -- ShortArea
  short : length area < area_length → Case bs area r m c
  -- BadTable
  bad_table : area_length ≤ length area → (n o : ℕ) → Judged bs (rejected n o) → Case bs area r m c
  -- BadState: 33
  is_closed : area_length ≤ length area → (g : Grammar) → Accepted bs g → r.status ≡ closed → Case bs area r m c
  -- BadState: 40
  is_waiting : area_length ≤ length area → (g : Grammar) → Accepted bs g → r.status ≡ waiting → r.kind ≡ outer → Case bs area r m c
  -- BadState: 34, by the record's kind or by the stacks
  is_inner : area_length ≤ length area → (g : Grammar) → Accepted bs g → (r.status ≡ closed → ⊥) → (r.kind ≡ outer → ⊥) → Case bs area r m c
  unfit : area_length ≤ length area → (g : Grammar) → Accepted bs g → is_open r ≡ true → (Fit g r m → ⊥) → Case bs area r m c
  -- UnevenLists: 38
  uneven : (g : Grammar) → Met bs g area r m → (Even c → ⊥) → Case bs area r m c
  -- CallsMove
  met : (g : Grammar) → Met bs g area r m → Even c → Case bs area r m c

abbrev pub which_case : {bs : TableBytes} {area : Area} {r : Record} {m : Stacks} {c : Call} → Case bs area r m c → ℕ
which_case (short l) = 1
which_case (bad_table l n o j) = 2
which_case (is_closed l g a o) = 3
which_case (is_waiting l g a w o) = 4
which_case (is_inner l g a n k) = 5
which_case (unfit l g a o f) = 6
which_case (uneven g x e) = 7
which_case (met g x e) = 8

-- every call is one of the eight, and only that one. (An opening is one of the first two, or `Opening` says by the lent numbers what it does)
abbrev pub AllCases : Type 0
AllCases =
    (bs : TableBytes) (area : Area) (r : Record) (m : Stacks) (c : Call)
    → (x : Case bs area r m c) × ((y : Case bs area r m c) → which_case y ≡ which_case x)

-- ==== more of the moves

-- an empty feed changes nothing but the program area
abbrev pub EmptyFeed : Type 0
EmptyFeed = (program : ProgramBuilder) (bs : TableBytes) (area : Area) (g : Grammar) (r : Record) (m : Stacks) → Met bs g area r m → performs program bs area r m (feed [] []) ≡ handed_back (more r.moves) r m (written (program g) area)

-- 01: "35 a token after 65,535, or a move after 4,294,967,295"
abbrev pub LimitsOnly : Type 0
LimitsOnly = (program : ProgramBuilder) (bs : TableBytes) (area : Area) (r : Record) (m : Stacks) (c : Call) (n : ℕ) → (performs program bs area r m c).answer ≡ refused 35 n
    → ((performs program bs area r m c).state.tokens ≡ tokens_limit) ⊎ ((performs program bs area r m c).state.moves ≡ moves_limit)

-- a selector of a register that stands, and one of a register that holds a value
abbrev pub Standing : Config → ℕ → Type 0
Standing c k = (1 ≤ k) × (k ≤ length c.registers)

abbrev pub Valued : Config → ℕ → Type 0
Valued c k = (1 ≤ k) × (k ≤ length c.registers) × T (in_range (read_register c.registers k))

-- what the instruction at hand reads and writes
abbrev pub Handles : Grammar → Config → Instruction → Type 0
Handles g c (add n) = Unit {0}
Handles g c (evaluate rules) = (r : Rule ℕ) → In r rules → Standing c r.target × Operands (Valued c) r.function
Handles g c (test cs) = (t : Condition ℕ) → In t cs → Reads (Valued c) t
Handles g c (remove n) = n ≤ length c.registers
Handles g c (expect x) = (p : ℕ) → p < length g.productions → x ≡ nonterminal (production_at g p).left → (t : Condition ℕ) → In t (entry_tests g (production_at g p)) → Reads (Valued c) t

-- whatever fits, at every move: selectors stand between 1 and the height, every register read holds a value in range. (The tokens have values in range: those of a caller are signed 32-bit numbers, by their type)
abbrev pub HandlesAlways : Type 0
HandlesAlways =
    (bs : TableBytes) (g : Grammar) (r : Record) (m : Stacks) → Accepted bs g → Fit g r m
    → (ws : List Act) (us vs : List Leaf) (c : Config) → T (all (is_leaf_of g) us) → Makes g (lent_of m) us (config_of g r m) ws vs c
    → (p : ℕ) (i : Instruction) (is : List Instruction) (fs : List Frame) → c.frames ≡ record { production = p; rest = i ∷ is } ∷ fs → Handles g c i

-- ==== the lent memory. 01: "At most 4,096 registers and 1,024 places are used; cells past these are neither read nor written and don't count as lent"

abbrev pub lent_part : Stacks → Stacks
lent_part m = record { registers = take registers_limit m.registers; places = take places_limit m.places }

abbrev pub past_lent : Stacks → Stacks
past_lent m = record { registers = drop registers_limit m.registers; places = drop places_limit m.places }

-- an effect without the cells past what is lent
abbrev pub on_lent : Effect → Effect
on_lent e = handed_back e.answer e.state (lent_part e.stacks) e.area

-- not read: on stacks with the same lent cells a call does the same
abbrev pub NeverRead : Type 0
NeverRead =
    (program : ProgramBuilder) (bs : TableBytes) (area : Area) (r : Record) (m n : Stacks) (c : Call) → lent_part m ≡ lent_part n
    → (on_lent (opens program bs area m) ≡ on_lent (opens program bs area n)) × (on_lent (performs program bs area r m c) ≡ on_lent (performs program bs area r n c))

-- not written
abbrev pub NeverWritten : Type 0
NeverWritten =
    (program : ProgramBuilder) (bs : TableBytes) (area : Area) (r : Record) (m : Stacks) (c : Call)
    → (past_lent (opens program bs area m).stacks ≡ past_lent m) × (past_lent (performs program bs area r m c).stacks ≡ past_lent m)
