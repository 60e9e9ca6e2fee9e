-- What each call begins with: 30, the table, and its program written. 01: "Order: 30, table, 33, 34, then the moves".
use Rattle.std.specs.Prelude.{ℕ, ◌≤◌, ◌<◌, ◌≡◌, Bool, true, false, List, length}
use Rattle.std.proofs.Common.{sym, ap, ◌∙◌, lt-ltb, le-ltb}
use Rattle.meaning.specs.Grammar.{Grammar}
use Rattle.meaning.specs.Table.{State, grammar_of}
use Rattle.meaning.specs.Program.{program_of}
use Rattle.meaning.specs.Calls.{Record, Stacks, Called, refused, table_refused, as_brought}
use Rattle.meaning.specs.PublicCalls.{Checked, usable, unusable, check, area_length, written, Effect, effect, called}
use Rattle.prepare.specs.Making.{ProgramStands}
use Rattle.run_fit.specs.HasProgram.{HasProgram, Readable}
use Rattle.prepare.specs.declared.Begun.{Begun}
use Rattle.prepare.specs.declared.Begun.TheVariants.{Turned, Ready}
use Rattle.records.specs.declared.Answer.{Answer}
use Rattle.records.specs.Records.{answer_is}

-- whatever a call brings and would make, it is turned back with answer a
abbrev pub TurnedBack : List ℕ → List ℕ → Answer → Type 0
TurnedBack t area a = (r : Record) (m : Stacks) (made : Grammar → Called) → called program_of t area r m made ≡ effect (as_brought (answer_is a) r m) area

abbrev pub Case : List ℕ → List ℕ → List ℕ → Begun → Type 0
Case t area area' (Turned a) = TurnedBack t area a × (area' ≡ area)
Case t area area' Ready = (size : ℕ) × ProgramStands t area area' size

pub record BegunAs (t area area' : List ℕ) (b : Begun) : Type 0 where
  pub case : Case t area area' b

-- ---- the call of each case

module _ (t area : List ℕ) (r : Record) (m : Stacks) (made : Grammar → Called) where
  abbrev by_table : Checked → Effect
  by_table x = elim x [ unusable n o ↦ effect (as_brought (table_refused n o) r m) area | usable s ↦ effect (made (grammar_of s)) (written (program_of (grammar_of s)) area) ]

  abbrev by_area : Bool → Effect
  by_area b = elim b [ true ↦ effect (as_brought (refused 30 0) r m) area | false ↦ by_table (check t) ]

  pub called_short : length area < area_length → called program_of t area r m made ≡ effect (as_brought (refused 30 0) r m) area
  called_short l = ap by_area (lt-ltb (length area) area_length l)

  module _ (l : area_length ≤ length area) where
    long : called program_of t area r m made ≡ by_table (check t)
    long = ap by_area (le-ltb (length area) area_length l)

    pub called_refused : (n o : ℕ) → check t ≡ unusable n o → called program_of t area r m made ≡ effect (as_brought (table_refused n o) r m) area
    called_refused n o e = long ∙ ap by_table e

    pub called_usable : (s : State) → check t ≡ usable s → called program_of t area r m made ≡ effect (made (grammar_of s)) (written (program_of (grammar_of s)) area)
    called_usable s e = long ∙ ap by_table e

-- ---- what an accepted table brings

module _ {t area area' : List ℕ} {size : ℕ} (a : ProgramStands t area area' size) where
  pub standing_shown : HasProgram (grammar_of a.state) area'
  standing_shown = record { formed = a.formed; begins = a.begins }

  pub standing_readable : Readable area'
  standing_readable = record { grammar = grammar_of a.state; shown = standing_shown }

  pub standing_called : (r : Record) (m : Stacks) (made : Grammar → Called) (k : Called) → k ≡ made (grammar_of a.state) → effect k area' ≡ called program_of t area r m made
  standing_called r m made k e = (λ i. effect (e i) (a.is_written i)) ∙ sym (called_usable t area r m made a.long a.state a.is_usable)
