-- 02's numbers for the answers of the check of a sheet, and what it asks and promises of a table that is accepted.
use Rattle.std.specs.Prelude.{ℕ, ◌+◌, ◌≡◌, Option, List, ℤ}
use Rattle.meaning.specs.Limits.{depth_limit}
use Rattle.meaning.specs.Grammar.{nonterminal_base}
use Rattle.meaning_judge.specs.Judge.{JudgeAnswer, worth, turned_back, Settles}
use Rattle.outline.specs.Outline.{grammar_in}
use Rattle.judge_nodes.specs.parts.Checked.{Book, leaves_in, NodeEnds}
use Rattle.judge_nodes.specs.declared.parts.Ends.{Ends}
use Rattle.judge_sheet.specs.declared.Judgement.{Judgement}
use Rattle.judge_sheet.specs.declared.Judgement.TheVariants.{Value, Uneven, Wrong, Unusable}

-- the root's value; 02 (e): "Lists of unequal length are turned back as 38"; 02 (m): 43; both with 0 beside them; the table's number and offset
abbrev pub judgement_is : Judgement → JudgeAnswer
judgement_is (Value v) = worth v
judgement_is Uneven = turned_back 38 0
judgement_is Wrong = turned_back 43 0
judgement_is (Unusable number offset) = turned_back number offset

pub record SheetReady (table rows inherited synthesized offsets ks : List ℕ) (vs : List ℤ) (sheet : List ℕ) (start result : ℕ) : Type 0 where
  pub book : Book table rows inherited synthesized offsets ks vs sheet
  pub is_start : start ≡ (grammar_in table).start
  pub is_result : result ≡ (grammar_in table).result

abbrev pub SheetSettled : List ℕ → List ℕ → List ℕ → List ℕ → List ℕ → List ℕ → List ℤ → List ℕ → ℕ → ℕ → Judgement → Type 0
SheetSettled table rows inherited synthesized offsets ks vs sheet start result r =
    (x : SheetReady table rows inherited synthesized offsets ks vs sheet start result) → Settles (grammar_in table) (leaves_in (grammar_in table) ks vs) sheet (judgement_is r)

-- what the answer for the root comes to, under any table
abbrev pub RootSettled : List ℕ → List ℤ → List ℕ → ℕ → Option Ends → Judgement → Type 0
RootSettled ks vs sheet result a r =
    (table rows inherited synthesized offsets : List ℕ) (start : ℕ) (x : SheetReady table rows inherited synthesized offsets ks vs sheet start result)
    → NodeEnds table rows inherited synthesized offsets ks vs sheet 0 0 (nonterminal_base + start) depth_limit a → Settles (grammar_in table) (leaves_in (grammar_in table) ks vs) sheet (judgement_is r)
