-- 02 (i): the call that writes a tree's sheet: what it answers, and every byte of the buffer afterwards. "Its value and refusals are those of the stack run with the same lent limits, given here as two numbers and without 30, and its records are the tree that defines acceptance."
use Rattle.std.specs.Prelude.{ℕ, min, ◌≡◌, Bool, true, false, List, ◌++◌, length, drop, replicate, eqb, ltb, ℤ, pos}
use Rattle.meaning.specs.Limits.{registers_limit, places_limit}
use Rattle.meaning.specs.Grammar.{Grammar, Leaf, leaves, TableBytes, TokenKinds, TokenValues, ByteBuffer}
use Rattle.meaning.specs.Table.{grammar_of}
use Rattle.meaning.specs.Tree.{Tree, TreeOf}
use Rattle.meaning.specs.Calls.{Stacks, Answer, more, value, refused, table_refused, open_of, feed_of, finish_of, tokens_from}
use Rattle.meaning.specs.PublicCalls.{Checked, usable, unusable, check}
use Rattle.meaning_sheet.specs.Sheet.{sheet_of, SheetBytes}

pub data SheetAnswer : Type 0 where
  -- the value, the moves, the length written
  sheeted : ℤ → ℕ → ℕ → SheetAnswer
  -- 20 to 24, 31, 32 or 35 with the tokens read; 38 or 41 with 0
  turned_back : ℕ → ℕ → SheetAnswer
  -- 1 to 13 with the field's offset
  table_turned : ℕ → ℕ → SheetAnswer

-- the answer, and the buffer afterwards
pub record SheetEffect : Type 0 where
  pub answer : SheetAnswer
  pub buffer : ByteBuffer

abbrev pub sheet_effect : SheetAnswer → ByteBuffer → SheetEffect
sheet_effect a out = record { answer = a; buffer = out }

-- ---- the stack run

-- stacks of so many cells, cut at 4,096 and 1,024. (Whatever they hold, opening clears them)
abbrev pub stacks_for : ℕ → ℕ → Stacks
stacks_for n k = record { registers = replicate (min n registers_limit) (pos 0); places = replicate (min k places_limit) 0 }

-- an answer that lets the next call be made, or the one that stays
abbrev pub unless_refused : Answer → Answer → Answer
unless_refused (more n) a = a
unless_refused (value v n) a = value v n
unless_refused (refused k n) a = refused k n
unless_refused (table_refused k o) a = table_refused k o

-- opened, fed the segment, finished
abbrev pub stack_run_value : Grammar → Stacks → TokenKinds → TokenValues → Answer
stack_run_value g m ks vs =
    let o = open_of g m in
    let f = feed_of g o.state o.stacks ks vs in
    unless_refused o.answer (unless_refused f.answer (finish_of g f.state f.stacks).answer)

-- ---- the call

-- a sheet where an accepted value is answered. "A sheet buffer too short for the tree's records is turned back as 41 in place of an accepted value, after the segment's refusals"
abbrev pub with_sheet : ℤ → ℕ → SheetBytes → ByteBuffer → SheetEffect
with_sheet v n bytes out = elim (ltb (length out) (length bytes)) [
  | true ↦ sheet_effect (turned_back 41 0) out
  | false ↦ sheet_effect (sheeted v n (length bytes)) (bytes ++ drop (length bytes) out)
]

-- what the stack run's answer on the tokens us makes of the call. "on every refusal the sheet's old bytes are restored or were never written"
abbrev pub AfterRun : Grammar → List Leaf → Answer → ByteBuffer → SheetEffect → Type 0
AfterRun g us (more n) out e = ⊥
AfterRun g us (value v n) out e = (t : Tree) × TreeOf g us t × (e ≡ with_sheet v n (sheet_of t) out)
AfterRun g us (refused k n) out e = e ≡ sheet_effect (turned_back k n) out
AfterRun g us (table_refused k o) out e = ⊥

-- 02 (e): 38 "after the table's refusals where no record is brought" and "before 31, 32 or any move"
abbrev pub WhenEven : Bool → Grammar → ℕ → ℕ → TokenKinds → TokenValues → ByteBuffer → SheetEffect → Type 0
WhenEven false g n k ks vs out e = e ≡ sheet_effect (turned_back 38 0) out
WhenEven true g n k ks vs out e = AfterRun g (leaves g (tokens_from ks vs)) (stack_run_value g (stacks_for n k) ks vs) out e

abbrev pub WhenChecked : Checked → ℕ → ℕ → TokenKinds → TokenValues → ByteBuffer → SheetEffect → Type 0
WhenChecked (unusable n o) r p ks vs out e = e ≡ sheet_effect (table_turned n o) out
WhenChecked (usable s) r p ks vs out e = WhenEven (eqb (length ks) (length vs)) (grammar_of s) r p ks vs out e

-- with r registers and p places for a segment of kinds ks and values vs under the table bs, and the buffer out, the call's effect is e
abbrev pub Sheets : TableBytes → ℕ → ℕ → TokenKinds → TokenValues → ByteBuffer → SheetEffect → Type 0
Sheets bs r p ks vs out e = WhenChecked (check bs) r p ks vs out e

-- ---- the statement: whatever is brought, there is one such effect and no other

-- values are signed 32-bit numbers by the type of the call
abbrev pub SheetsOnce : Type 0
SheetsOnce = (bs : TableBytes) (r p : ℕ) (ks : TokenKinds) (vs : TokenValues) (out : ByteBuffer) (e f : SheetEffect) → Sheets bs r p ks vs out e → Sheets bs r p ks vs out f → e ≡ f
