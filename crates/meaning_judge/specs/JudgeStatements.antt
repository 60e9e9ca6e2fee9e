-- 02 (m), as statements: each is a type, and its proof, in theory_judge, is a value of it.
use Rattle.std.specs.Prelude.{ℕ, ◌≤◌, ◌≡◌, ◌↔◌, length, ℤ}
use Rattle.meaning.specs.Grammar.{Grammar, leaves, TableBytes, Area, ProgramBuilder, TokenKinds, TokenValues}
use Rattle.meaning.specs.Judgement.{Accepted, rejected}
use Rattle.meaning.specs.Decide.{verdict_of}
use Rattle.meaning.specs.Tree.{Tree, TreeOf, value_of}
use Rattle.meaning.specs.Walk.{walk}
use Rattle.meaning.specs.Drawn.{WalkFits}
use Rattle.meaning.specs.Calls.{Stacks, Answer, value, refused, lent_of, tokens_from}
use Rattle.meaning.specs.PublicCalls.{feed, area_length, opens, performs}
use Rattle.meaning_statements.specs.CallStatements.{Lendable}
use Rattle.meaning_statements.specs.Statements.{fed_and_finished}
use Rattle.meaning_sheet.specs.Sheet.{sheet_of, SheetBytes}
use Rattle.meaning_sheet.specs.SheetCalls.{unless_refused}
use Rattle.meaning_judge.specs.Judge.{Describes, JudgeAnswer, worth, turned_back, JudgedAs}

-- no call has two answers
abbrev pub JudgedOnce : Type 0
JudgedOnce =
    (bs : TableBytes) (ks : TokenKinds) (vs : TokenValues) (bytes : SheetBytes) (a b : JudgeAnswer)
    → JudgedAs bs ks vs bytes a → JudgedAs bs ks vs bytes b → a ≡ b

-- "accept exactly if it describes the segment's well evaluated tree, of depth at most 1,023, records in the order of (i), and nothing after it": with that tree's value
abbrev pub AcceptedSheets : Type 0
AcceptedSheets =
    (bs : TableBytes) (g : Grammar) (ks : TokenKinds) (vs : TokenValues) (bytes : SheetBytes) → Accepted bs g → length ks ≡ length vs → (v : ℤ)
    → JudgedAs bs ks vs bytes (worth v) ↔ ((t : Tree) × Describes g (leaves g (tokens_from ks vs)) bytes t × (value_of g t ≡ v))

-- "Every sheet not accepted, as any for a segment without a tree, is turned back as 43, after the table's refusals and 38."
abbrev pub RefusedSheets : Type 0
RefusedSheets =
    ((bs : TableBytes) (g : Grammar) (ks : TokenKinds) (vs : TokenValues) (bytes : SheetBytes) → Accepted bs g → length ks ≡ length vs
    → JudgedAs bs ks vs bytes (turned_back 43 0) ↔ ((t : Tree) → Describes g (leaves g (tokens_from ks vs)) bytes t → ⊥))
    × ((bs : TableBytes) (g : Grammar) (ks : TokenKinds) (vs : TokenValues) (bytes : SheetBytes) (a : JudgeAnswer) → Accepted bs g → (length ks ≡ length vs → ⊥) → JudgedAs bs ks vs bytes a ↔ (a ≡ turned_back 38 0))
    × ((bs : TableBytes) (ks : TokenKinds) (vs : TokenValues) (bytes : SheetBytes) (a : JudgeAnswer) (n o : ℕ) → verdict_of bs ≡ rejected n o → JudgedAs bs ks vs bytes a ↔ (a ≡ turned_back n o))

-- a segment brought whole: the refusal of its opening, its feed or its finish, or what the finish answers
abbrev pub segment_answer : ProgramBuilder → TableBytes → Area → Stacks → TokenKinds → TokenValues → Answer
segment_answer program bs area m ks vs =
    let o = opens program bs area m in
    unless_refused o.answer (unless_refused (performs program bs area o.state o.stacks (feed ks vs)).answer (fed_and_finished program bs area ks vs o).answer)

-- 20 to 24: the segment is at fault, and not the stacks or a limit (31, 32, 35)
abbrev pub AtFault : ℕ → Type 0
AtFault k = (20 ≤ k) × (k ≤ 24)

-- "Every sheet not accepted, as any for a segment without a tree, is turned back as 43": a segment that is refused as at fault, on whatever stacks, has no tree, and every sheet for it is a 43
abbrev pub RefusedSegments : Type 0
RefusedSegments =
    (program : ProgramBuilder) (bs : TableBytes) (area : Area) (g : Grammar) (m : Stacks) (ks : TokenKinds) (vs : TokenValues) (bytes : SheetBytes) (k n : ℕ)
    → Accepted bs g → area_length ≤ length area → Lendable (feed ks vs) → length ks ≡ length vs → segment_answer program bs area m ks vs ≡ refused k n → AtFault k → JudgedAs bs ks vs bytes (turned_back 43 0)

-- "Each sheet of (i) is accepted.": that of a tree whose walk fits what is lent, with the tree's value
abbrev pub WrittenSheets : Type 0
WrittenSheets =
    (bs : TableBytes) (g : Grammar) (ks : TokenKinds) (vs : TokenValues) (m : Stacks) (t : Tree) → Accepted bs g → length ks ≡ length vs
    → TreeOf g (leaves g (tokens_from ks vs)) t → WalkFits g (lent_of m) t → JudgedAs bs ks vs (sheet_of t) (worth (value_of g t))

-- "An accepted sheet's root value is the segment's value on stacks that suffice, if its tokens and moves keep to their limits.": stacks suffice, and the limits are kept, where the tree's walk fits
abbrev pub SheetValue : Type 0
SheetValue =
    (program : ProgramBuilder) (bs : TableBytes) (area : Area) (g : Grammar) (m : Stacks) (ks : TokenKinds) (vs : TokenValues) (bytes : SheetBytes) (v : ℤ)
    → Accepted bs g → area_length ≤ length area → Lendable (feed ks vs) → length ks ≡ length vs → JudgedAs bs ks vs bytes (worth v)
    → ((t : Tree) → TreeOf g (leaves g (tokens_from ks vs)) t → WalkFits g (lent_of m) t → (fed_and_finished program bs area ks vs (opens program bs area m)).answer ≡ value v (length (walk g t)))
    × ((w : ℤ) (n : ℕ) → (fed_and_finished program bs area ks vs (opens program bs area m)).answer ≡ value w n → w ≡ v)
