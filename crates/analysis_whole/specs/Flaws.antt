-- What the analysis of a grammar answers, as 01's number and a nonterminal.
use Rattle.std.specs.Prelude.{ℕ, Result, Ok, Err}
use Rattle.refusals.specs.Numbers.{fault_number}
use Rattle.analysis_whole.specs.declared.Flaw.{Flaw}

-- the number of the flaw, 0 where there is none
abbrev pub flaw_number : Result (Unit {0}) Flaw → ℕ
flaw_number (Ok _) = 0
flaw_number (Err f) = fault_number f.fault

-- its nonterminal, 0 where there is none
abbrev pub flawed : Result (Unit {0}) Flaw → ℕ
flawed (Ok _) = 0
flawed (Err f) = f.nonterminal
