-- 01's numbers for a program made of a table, and what a caller may count on by each.
use Rattle.std.specs.Prelude.{ℕ, ◌≤◌, ◌<◌, ◌≡◌, List, length}
use Rattle.meaning.specs.Rules.{WellFormed}
use Rattle.meaning.specs.Program.{program_of}
use Rattle.meaning.specs.Table.{State, grammar_of}
use Rattle.meaning.specs.PublicCalls.{usable, unusable, check, area_length, written, ProgramAnswer, turned, programmed}
use Rattle.theory_program.specs.Addresses.{Begins}
use Rattle.prepare.specs.declared.Made.{Made}
use Rattle.prepare.specs.declared.Made.TheVariants.{Short, Refused, Written}

-- 01: "30 program area short", with 0; the table's number and offset
abbrev pub made_is : Made → ProgramAnswer
made_is Short = turned 30 0
made_is (Refused number offset) = turned number offset
made_is (Written size) = programmed size

-- ---- by cases, for a caller that goes by the answer

-- the program of an accepted table is written, and stands at the area's start
pub record ProgramStands (t area area' : List ℕ) (size : ℕ) : Type 0 where
  pub long : area_length ≤ length area
  pub state : State
  pub is_usable : check t ≡ usable state
  pub formed : WellFormed (grammar_of state)
  pub is_written : area' ≡ written (program_of (grammar_of state)) area
  pub is_size : size ≡ length (program_of (grammar_of state))
  pub begins : Begins (grammar_of state) area'

abbrev pub Case : List ℕ → List ℕ → List ℕ → Made → Type 0
Case t area area' Short = (length area < area_length) × (area' ≡ area)
Case t area area' (Refused number offset) = (area_length ≤ length area) × (check t ≡ unusable number offset) × (area' ≡ area)
Case t area area' (Written size) = ProgramStands t area area' size

pub record MadeAs (t area area' : List ℕ) (m : Made) : Type 0 where
  pub case : Case t area area' m
