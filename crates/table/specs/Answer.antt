-- The reader's answer, and what it says of a table.
use Rattle.std.specs.Prelude.{ℕ, ◌≡◌, List, Result, Ok, Err, reverse}
use Rattle.meaning.specs.Table.{Read, malformed, read_table}
use Rattle.outline.specs.declared.Sizes.{Sizes}
use Rattle.outline.specs.Outline.{Carries, Outline}
use Rattle.set_words.specs.Views.{right_by}
use Rattle.set_words.specs.Growth.{SetsTo}
use Rattle.table_fields.specs.Field.{rest}
use Rattle.refusals.specs.Numbers.{fault_number}
use Rattle.refusals.specs.declared.TableRefusal.{TableRefusal}
use Rattle.table.specs.Laid.{named}

-- the answer, with the lent lists, for what is read: they hold the outline of each table that reads so, or it is refused
abbrev pub Answers : Result Sizes TableRefusal → List ℕ → List ℕ → List ℕ → List ℕ → Read → Type 0
Answers (Ok sizes) inherited synthesized rows offsets x = (t : List ℕ) → read_table t ≡ x → Outline t sizes inherited synthesized rows offsets
Answers (Err r) inherited synthesized rows offsets x = x ≡ malformed (fault_number r.fault) r.offset

-- the same from an offset on, after tag 6 fields that name just the terminals of a word
abbrev pub AnswersFrom : List ℕ → ℕ → Sizes → Result Sizes TableRefusal → List ℕ → List ℕ → List ℕ → List ℕ → Type 0
AnswersFrom t from sizes r inherited synthesized rows offsets =
    (ws : List ℕ) → Carries sizes.carrying.0 (reverse ws)
    → Answers r inherited synthesized rows offsets (rest t (named t inherited synthesized sizes.nonterminals ws) from)

-- beside the outline, the words of the right sides
abbrev pub Worded : Result Sizes TableRefusal → List ℕ → List ℕ → Type 0
Worded (Ok sizes) rows words = SetsTo (right_by rows) sizes.productions words
Worded (Err r) rows words = Unit {0}
