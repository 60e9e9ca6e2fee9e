-- What 02 (b) promises of the list: each candidate exactly once, in the one order that 02 gives, with the value of its tree or its refusal; what others left on the stacks, and the order in which candidates come, play no part.
use Rattle.std.specs.Prelude.{ℕ, suc, ◌*◌, ◌≤◌, ◌<◌, ◌≡◌, ◌↔◌, Bool, true, false, List, [], ◌∷◌, ◌++◌, map, length, get_or, take, drop, T, eqb, ℤ, pos}
use Rattle.std.specs.Int.Signed.{lt_z}
use Rattle.meaning.specs.Base.{In, all, any}
use Rattle.meaning.specs.Grammar.{Grammar, leaves, TableBytes, Area, ProgramBuilder, TokenKinds, TokenValues}
use Rattle.meaning.specs.Rules.{four_bytes}
use Rattle.meaning.specs.Value as Value
use Rattle.meaning.specs.Judgement.{Accepted}
use Rattle.meaning.specs.Tree.{Tree, TreeOf, value_of}
use Rattle.meaning.specs.Drawn.{WalkFits}
use Rattle.meaning_house.specs.Order.{Shuffled}
use Rattle.meaning.specs.Calls as Calls
use Rattle.meaning.specs.Calls.{Stacks, Answer, lent_of, tokens_from}
use Rattle.meaning.specs.PublicCalls.{area_length}
use Rattle.meaning_ranking.specs.Ranking.{RankEntry, rank_entry, number, value, valued, Ranks, cells_of, total_of, valued_of}
use Rattle.meaning_ranking.specs.RankCall.{evaluated, rank_entry_of, evaluations, RankEffect, ranked, unranked, in_order_value, rank_of, Lengths, ListBuffer}

-- 02: "Candidates come as one token list and their lengths"
pub record Candidate : Type 0 where
  pub kinds : TokenKinds
  pub values : TokenValues

abbrev pub candidates_of : Lengths → TokenKinds → TokenValues → List Candidate
candidates_of [] ks vs = []
candidates_of (n ∷ ns) ks vs = record { kinds = take n ks; values = take n vs } ∷ candidates_of ns (drop n ks) (drop n vs)

-- an accepted table, and candidates that are not turned back. (The values are signed 32-bit numbers: the type of what a caller lends)
pub record CandidatesBrought (bs : TableBytes) (area : Area) (g : Grammar) (lengths : Lengths) (ks : TokenKinds) (vs : TokenValues) (list : ListBuffer) : Type 0 where
  pub accepts : Accepted bs g
  pub long : area_length ≤ length area
  pub suits : in_order_value lengths ks list ≡ true
  pub even : length ks ≡ length vs
  pub lendable : T (all four_bytes vs)

-- the entries in candidate order
abbrev pub entries_for : Grammar → Lengths → TokenKinds → TokenValues → Stacks → List RankEntry
entries_for g lengths ks vs m = (evaluations g 0 lengths ks vs m).entries

-- ---- the list

-- 02: "list them, highest value first, equal values by lower candidate number" with "each candidate .. exactly once": the list holds the one list that is in order and has each entry once, the cells past it are as they were, and the report is theirs
pub record RankedAs (es : List RankEntry) (lengths : Lengths) (list : ListBuffer) (e : RankEffect) : Type 0 where
  pub order : List RankEntry
  pub ranks : Ranks es order
  pub only : (rs : List RankEntry) → Ranks es rs → rs ≡ order
  pub is_list : e.list ≡ cells_of order ++ drop (3 * length lengths) list
  pub report : e.answer ≡ ranked (valued_of es) (total_of es) (length lengths)

abbrev pub RankedExactly : Type 0
RankedExactly =
    (program : ProgramBuilder) (bs : TableBytes) (area : Area) (g : Grammar) (lengths : Lengths) (ks : TokenKinds) (vs : TokenValues) (list : ListBuffer)
    (m : Stacks) → CandidatesBrought bs area g lengths ks vs list
    → RankedAs (entries_for g lengths ks vs m) lengths list (rank_of program bs area lengths ks vs list m)

-- of two entries the first stands in front: 02's words
pub record Front (x y : RankEntry) : Type 0 where
  -- a refused one "stands after all valued ones"
  pub valued_first : valued y ≡ true → valued x ≡ true
  -- "highest value first"
  pub highest : valued x ≡ true → valued y ≡ true → lt_z (value x) (value y) ≡ false
  -- "equal values by lower candidate number"
  pub equals : valued x ≡ true → valued y ≡ true → value x ≡ value y → lt_z (number x) (number y) ≡ true
  -- "in candidate order"
  pub refused : valued x ≡ false → valued y ≡ false → lt_z (number x) (number y) ≡ true

abbrev pub none : RankEntry
none = rank_entry (pos 0) (pos 0) (pos 0)

abbrev pub RankedInFront : Type 0
RankedInFront =
    (g : Grammar) (lengths : Lengths) (ks : TokenKinds) (vs : TokenValues) (m : Stacks) (rs : List RankEntry) → Ranks (entries_for g lengths ks vs m) rs
    → (i j : ℕ) → i < j → j < length rs → Front (get_or rs i none) (get_or rs j none)

-- ---- what each entry says

abbrev pub numbered : ℕ → List Answer → List RankEntry
numbered i [] = []
numbered i (a ∷ answers) = rank_entry_of i a ∷ numbered (suc i) answers

-- the stacks that the last candidate leaves; with none they are as brought
abbrev pub last_left : Grammar → Stacks → Stacks → List Candidate → Stacks
last_left g m s [] = s
last_left g m s (c ∷ cs) = last_left g m (evaluated g m c.kinds c.values).stacks cs

-- 02: "on stacks opened afresh": each candidate answers what it answers alone on the stacks as brought
abbrev pub RankedAlone : Type 0
RankedAlone =
    (bs : TableBytes) (area : Area) (g : Grammar) (lengths : Lengths) (ks : TokenKinds) (vs : TokenValues) (list : ListBuffer) (m : Stacks)
    → CandidatesBrought bs area g lengths ks vs list
    → (entries_for g lengths ks vs m ≡ numbered 0 (map (λ c. (evaluated g m c.kinds c.values).answer) (candidates_of lengths ks vs)))
    × ((evaluations g 0 lengths ks vs m).stacks ≡ last_left g m m (candidates_of lengths ks vs))

-- 02: "A candidate refused by 20 to 24, 31, 32 or 35"
abbrev pub is_refusal : ℕ → Bool
is_refusal k = any (eqb k) (20 ∷ 21 ∷ 22 ∷ 23 ∷ 24 ∷ 31 ∷ 32 ∷ 35 ∷ [])

abbrev pub candidate_answer : Answer → Bool
candidate_answer (Calls.value v n) = Value.in_range v
candidate_answer (Calls.refused k n) = is_refusal k
candidate_answer (Calls.more n) = false
candidate_answer (Calls.table_refused k o) = false

abbrev pub RankedAnswers : Type 0
RankedAnswers = (bs : TableBytes) (g : Grammar) (m : Stacks) (ks : TokenKinds) (vs : TokenValues) → Accepted bs g → length ks ≡ length vs → T (all four_bytes vs) → T (candidate_answer (evaluated g m ks vs).answer)

-- demand 2 for each candidate: its entry has the value v exactly where its tokens have a well evaluated tree with that value whose walk fits the lent stacks
abbrev pub RankedValues : Type 0
RankedValues =
    (bs : TableBytes) (area : Area) (g : Grammar) (lengths : Lengths) (ks : TokenKinds) (vs : TokenValues) (list : ListBuffer) (m : Stacks)
    → CandidatesBrought bs area g lengths ks vs list
    → (earlier later : List Candidate) (c : Candidate) → candidates_of lengths ks vs ≡ earlier ++ (c ∷ later) → (v : ℤ)
    → In (rank_entry (pos (length earlier)) v (pos 0)) (entries_for g lengths ks vs m) ↔ ((t : Tree) × TreeOf g (leaves g (tokens_from c.kinds c.values)) t × WalkFits g (lent_of m) t × (value_of g t ≡ v))

-- ---- in whatever order candidates come

abbrev pub unnumbered : RankEntry → RankEntry
unnumbered (rank_entry n v r) = rank_entry (pos 0) v r

-- the same candidates in another order: the same values and refusals, each as often, and the same report
abbrev pub RankedAnyOrder : Type 0
RankedAnyOrder =
    (bs : TableBytes) (area : Area) (g : Grammar) (lengths : Lengths) (ks : TokenKinds) (vs : TokenValues) (list : ListBuffer)
    (lengths' : Lengths) (ks' : TokenKinds) (vs' : TokenValues) (list' : ListBuffer) (m : Stacks)
    → CandidatesBrought bs area g lengths ks vs list → CandidatesBrought bs area g lengths' ks' vs' list' → Shuffled (candidates_of lengths ks vs) (candidates_of lengths' ks' vs')
    → (rs rs' : List RankEntry) → Ranks (entries_for g lengths ks vs m) rs → Ranks (entries_for g lengths' ks' vs' m) rs'
    → Shuffled (map unnumbered rs) (map unnumbered rs') × (total_of rs ≡ total_of rs') × (valued_of rs ≡ valued_of rs')

-- ---- refusals

-- 02: "the list buffer is not written", and the stacks are as brought
abbrev pub RankedUntouched : Type 0
RankedUntouched =
    (program : ProgramBuilder) (bs : TableBytes) (area : Area) (lengths : Lengths) (ks : TokenKinds) (vs : TokenValues) (list : ListBuffer) (m : Stacks) (n o : ℕ) → (rank_of program bs area lengths ks vs list m).answer ≡ unranked n o
    → ((rank_of program bs area lengths ks vs list m).list ≡ list) × ((rank_of program bs area lengths ks vs list m).stacks ≡ m)
