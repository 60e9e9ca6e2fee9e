-- Demands 2 and 3, as statements: each is a type, and its proof, in theory_demands, is a value of it. (Demand 1 is in CallStatements.)
use Rattle.std.specs.Prelude.{ℕ, ◌≤◌, ◌<◌, ◌≡◌, ◌↔◌, Bool, true, false, List, [], ◌∷◌, ◌++◌, length, T, ℤ}
use Rattle.meaning.specs.Grammar.{Grammar, Symbol, Token, Leaf, added_for, syn, leaves, TableBytes, Area, ProgramBuilder, TokenKinds, TokenValues, RegisterStack}
use Rattle.meaning.specs.Base.{all}
use Rattle.meaning.specs.Limits.{table_limit}
use Rattle.meaning.specs.Rules.{WellFormed}
use Rattle.meaning.specs.Layout.{LaidOut, Bytes}
use Rattle.meaning.specs.Judgement.{Accepted, Judged, Verdict, AllUseful, NoneRecursive, NoneClash}
use Rattle.meaning.specs.Decide.{verdict_of}
use Rattle.meaning.specs.Scheme.{Instruction, expect}
use Rattle.meaning.specs.Machine.{Frame, Config, Lent, moved, opening, next, look_at, unread, waits}
use Rattle.meaning.specs.Tree.{Tree, TreeOf, is_leaf_of, value_of}
use Rattle.meaning.specs.Walk.{Act, walk, Makes}
use Rattle.meaning.specs.Selectors.{SelectorsFind}
use Rattle.meaning.specs.Calls.{Record, is_open, Stacks, more, value, lent_of, record_of, lay_all}
use Rattle.meaning.specs.PublicCalls.{Call, feed, finish, area_length, Effect, opens, performs}
use Rattle.meaning_inner.specs.Inner.{is_closed, InnerCall, inner_opens}
use Rattle.meaning_inner.specs.InnerLists.{CallWithTable, inner_run}
use Rattle.meaning_statements.specs.CallStatements.{Met, Lendable, Even, tokens_of}
use Rattle.meaning.specs.Drawn.{WalkFits, drawn_record, drawn_stacks, drawn_moves}

-- ==== demand 2: "A table is accepted exactly when it meets 01's rules."

pub record Meets (bs : TableBytes) (g : Grammar) : Type 0 where
  -- 01: "At most 32,768 bytes of fields"
  pub short : length bs ≤ table_limit
  pub laid_out : LaidOut g bs
  pub well_formed : WellFormed g
  -- 11, 12, 13
  pub useful : AllUseful g
  pub no_recursion : NoneRecursive g
  pub no_clash : NoneClash g

abbrev pub AcceptedExactly : Type 0
AcceptedExactly = (bs : TableBytes) → Bytes bs → (g : Grammar) → Accepted bs g ↔ Meets bs g

-- every list has a verdict, the computed one, and no other
abbrev pub JudgedOnce : Type 0
JudgedOnce = (bs : TableBytes) → Judged bs (verdict_of bs) × ((v : Verdict) → Judged bs v → v ≡ verdict_of bs)

-- ==== lists of calls

-- the lists of calls that start with an opening of the table bs on stacks m₀ that was not turned back: the tokens fed, with their values, whether a finish counted, the record and the stacks now.
-- Any call, with any table and area, that is turned back with record and stacks as they were counts for nothing, and so does an inner run that has ended.
pub data History (program : ProgramBuilder) (bs : TableBytes) (m₀ : Stacks) : List Token → Bool → Record → Stacks → Type 0 where
  opened : (area : Area) → (opens program bs area m₀).answer ≡ more 0 → History program bs m₀ [] false (opens program bs area m₀).state (opens program bs area m₀).stacks
  counts_for_nothing : {ts : List Token} {is_over : Bool} {r : Record} {m : Stacks} (other : TableBytes) (area : Area) (c : Call)
      → History program bs m₀ ts is_over r m → (performs program other area r m c).state ≡ r → (performs program other area r m c).stacks ≡ m
      → History program bs m₀ ts is_over r m
  -- 02 (h): "in the outer run's list an ended inner run counts for nothing": opened on r and m, any inner calls, and closed; the list goes on from what it leaves
  inner_ended_value : {ts : List Token} {is_over : Bool} {r : Record} {m : Stacks} (outer_table inner_table : TableBytes) (area : Area) (ss : List (CallWithTable InnerCall)) → History program bs m₀ ts is_over r m
      → (inner_opens program outer_table inner_table area r m).answer ≡ more 0 → is_closed (inner_run program outer_table inner_table area r m ss).inner_state.status ≡ true
      → History program bs m₀ ts is_over (inner_run program outer_table inner_table area r m ss).outer_state (inner_run program outer_table inner_table area r m ss).stacks
  fed : {ts : List Token} {r : Record} {m : Stacks} (area : Area) (ks : TokenKinds) (vs : TokenValues) → Lendable (feed ks vs) → Even (feed ks vs) → History program bs m₀ ts false r m → area_length ≤ length area → is_open r ≡ true
      → History program bs m₀ (ts ++ tokens_of (feed ks vs)) false (performs program bs area r m (feed ks vs)).state (performs program bs area r m (feed ks vs)).stacks
  finished : {ts : List Token} {r : Record} {m : Stacks} (area : Area) → History program bs m₀ ts false r m → area_length ≤ length area → is_open r ≡ true
      → History program bs m₀ ts true (performs program bs area r m finish).state (performs program bs area r m finish).stacks

-- does a call end the segment?
abbrev pub ends : Call → Bool
ends (feed ks vs) = false
ends finish = true

-- any list of calls goes on with any call: with the opening's table on an open record it adds its tokens or the end, its lists being of one length; a call, with any table and area, that is turned back before its moves counts for nothing. (Left out is only a call that moves under another table)
abbrev pub GoesOn : Type 0
GoesOn =
    (program : ProgramBuilder) (bs : TableBytes) (g : Grammar) (m₀ : Stacks) (ts : List Token) (is_over : Bool) (r : Record) (m : Stacks) → Accepted bs g → History program bs m₀ ts is_over r m
    → ((area : Area) (c : Call) → Lendable c → Even c → area_length ≤ length area → is_open r ≡ true → History program bs m₀ (ts ++ tokens_of c) (ends c) (performs program bs area r m c).state (performs program bs area r m c).stacks)
    × ((other : TableBytes) (area : Area) (c : Call) → ((h : Grammar) → Met other h area r m → Even c → ⊥) → History program bs m₀ ts is_over (performs program other area r m c).state (performs program other area r m c).stacks)

-- ==== demand 2: values

-- "That tree is its only one."
abbrev pub OnlyTree : Type 0
OnlyTree = (bs : TableBytes) (g : Grammar) → Accepted bs g → (ts : List Leaf) (t u : Tree) → TreeOf g ts t → TreeOf g ts u → t ≡ u

-- "Under it a segment gets a value exactly when it has a well evaluated derivation tree with that value, its walk fits the lent stacks and it keeps to the limits."
-- After any list of calls: a finish answers v with n moves exactly where the tokens fed have such a tree, with value v and a walk of n moves
abbrev pub ValueAlways : Type 0
ValueAlways =
    (program : ProgramBuilder) (bs : TableBytes) (area : Area) (g : Grammar) (m₀ : Stacks) (ts : List Token) (r : Record) (m : Stacks) → Accepted bs g → area_length ≤ length area
    → History program bs m₀ ts false r m → (v : ℤ) (n : ℕ)
    → ((performs program bs area r m finish).answer ≡ value v n) ↔ ((t : Tree) × TreeOf g (leaves g ts) t × WalkFits g (lent_of m₀) t × (value_of g t ≡ v) × (length (walk g t) ≡ n))

-- what a feed of the kinds ks with the values vs and a finish do after an opening that left o
abbrev pub fed_and_finished : ProgramBuilder → TableBytes → Area → TokenKinds → TokenValues → Effect → Effect
fed_and_finished program bs area ks vs o = let f = performs program bs area o.state o.stacks (feed ks vs) in performs program bs area f.state f.stacks finish

-- a segment brought whole: opened, fed, finished. Nothing is presupposed of the opening
abbrev pub ValueWhole : Type 0
ValueWhole =
    (program : ProgramBuilder) (bs : TableBytes) (area : Area) (g : Grammar) (m : Stacks) (ks : TokenKinds) (vs : TokenValues) → Accepted bs g → area_length ≤ length area → Lendable (feed ks vs) → Even (feed ks vs) → (v : ℤ) (n : ℕ)
    → ((fed_and_finished program bs area ks vs (opens program bs area m)).answer ≡ value v n) ↔ ((t : Tree) × TreeOf g (leaves g (tokens_of (feed ks vs))) t × WalkFits g (lent_of m) t × (value_of g t ≡ v) × (length (walk g t) ≡ n))

-- ==== demand 3

-- "For every list of calls from an opening, registers, places and record are exactly the picture that 01 draws from the tree"
abbrev pub PictureAlways : Type 0
PictureAlways =
    (program : ProgramBuilder) (bs : TableBytes) (g : Grammar) (m₀ : Stacks) (ts us : List Token) (is_over : Bool) (r : Record) (m : Stacks) (t : Tree)
    → Accepted bs g → History program bs m₀ ts is_over r m
    → TreeOf g (leaves g (ts ++ us)) t → WalkFits g (lent_of m₀) t → (is_over ≡ true → us ≡ [])
    → (r ≡ drawn_record g t (length ts) is_over) × (m ≡ drawn_stacks g t (length ts) is_over m₀)

-- for any tokens: record and stacks are those of the configuration that so many moves from the opening lead to, which have read a first part of the tokens fed
pub record Reached (g : Grammar) (m₀ : Stacks) (ts : List Token) (r : Record) (m : Stacks) : Type 0 where
  pub moves : List Act
  pub unread : List Leaf
  pub config : Config
  pub made : Makes g (lent_of m₀) (leaves g ts) (opening g) moves unread config
  pub counted : length moves ≡ r.moves
  pub is_record : r ≡ record_of (is_open r) config
  pub is_stacks : m ≡ lay_all g config m₀
  -- while the record is open they have read all of them, no move has looked at what comes next, and the next move must
  pub open_run : is_open r ≡ true → ((us : List Leaf) → Makes g (lent_of m₀) (leaves g ts ++ us) (opening g) moves us config) × T (waits config.frames)

abbrev pub ReachedAlways : Type 0
ReachedAlways = (program : ProgramBuilder) (bs : TableBytes) (g : Grammar) (m₀ : Stacks) (ts : List Token) (is_over : Bool) (r : Record) (m : Stacks) → Accepted bs g → History program bs m₀ ts is_over r m → Reached g m₀ ts r m

-- where there is a tree, these moves are its walk's
abbrev pub WalkAlways : Type 0
WalkAlways =
    (program : ProgramBuilder) (bs : TableBytes) (g : Grammar) (m₀ : Stacks) (ts us : List Token) (is_over : Bool) (r : Record) (m : Stacks) (t : Tree)
    → Accepted bs g → History program bs m₀ ts is_over r m
    → TreeOf g (leaves g (ts ++ us)) t → WalkFits g (lent_of m₀) t → (is_over ≡ true → us ≡ [])
    → (c : Config) × Makes g (lent_of m₀) (leaves g (ts ++ us)) (opening g) (drawn_moves g t (length ts) is_over) (leaves g us) c × (r ≡ record_of (is_open r) c) × (m ≡ lay_all g c m₀)

-- "at each move, whatever the tokens, every selector finds the attribute it names": each move that the opening leads to. (The tokens have values in range: those of a caller are signed 32-bit numbers, by their type)
abbrev pub SelectorsAlways : Type 0
SelectorsAlways =
    (bs : TableBytes) (g : Grammar) → Accepted bs g → (lent : Lent) (ws : List Act) (ts us : List Leaf) (c : Config) → T (all (is_leaf_of g) (ts ++ us)) → Makes g lent (ts ++ us) (opening g) ws us c
    → (p : ℕ) (i : Instruction) (is : List Instruction) (fs : List Frame) → c.frames ≡ record { production = p; rest = i ∷ is } ∷ fs → SelectorsFind g ts us c i

-- moves from c that keep more than n frames
pub data Above (g : Grammar) (lent : Lent) (n : ℕ) (us : List Leaf) (c : Config) : List Leaf → Config → Type 0 where
  nothing : Above g lent n us c us c
  and_then : {vs : List Leaf} {d : Config} (e : Config) → Above g lent n us c vs d → next g lent (look_at vs) d ≡ moved e → n < length e.frames → Above g lent n us c (unread d e vs) e

-- a part for the symbol that c waits at is entered and left: a token by its read; a nonterminal from its predict, through moves with more places than c has, by the move (its remove) that has no more
pub data PartWalked (g : Grammar) (lent : Lent) (us : List Leaf) (c z : Config) : Type 0 where
  by_read_value : next g lent (look_at us) c ≡ moved z → length z.frames ≤ length c.frames → PartWalked g lent us c z
  by_remove : {vs : List Leaf} (d e : Config) → next g lent (look_at us) c ≡ moved d → length c.frames < length d.frames
      → Above g lent (length c.frames) (unread c d us) d vs e
      → next g lent (look_at vs) e ≡ moved z → length z.frames ≤ length c.frames → PartWalked g lent us c z

-- 01: "its results are its synthesized registers". Own are those added for the symbol before it was entered: none for a token, whose result its read adds
pub record Returned (g : Grammar) (x : Symbol) (c z : Config) : Type 0 where
  pub own : RegisterStack
  pub results : RegisterStack
  pub below : RegisterStack
  pub entered : c.registers ≡ own ++ below
  pub own_size : length own ≡ added_for g x
  pub leaves : z.registers ≡ results ++ below
  pub results_size : length results ≡ syn g x

-- "when a part is left, the registers below its results are those it was entered with"
abbrev pub ReturnsAlways : Type 0
ReturnsAlways =
    (bs : TableBytes) (g : Grammar) → Accepted bs g → (lent : Lent) (ws : List Act) (ts us : List Leaf) (c z : Config) → T (all (is_leaf_of g) (ts ++ us)) → Makes g lent (ts ++ us) (opening g) ws us c
    → (p : ℕ) (x : Symbol) (is : List Instruction) (fs : List Frame) → c.frames ≡ record { production = p; rest = expect x ∷ is } ∷ fs
    → PartWalked g lent us c z → Returned g x c z
