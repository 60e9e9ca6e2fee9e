-- What the statements on inner runs exclude: an outer run of words and tags stopped after word open, on 16 registers and 9 places, and inner runs over it.
use Rattle.std.specs.Prelude.{ℕ, ◌≤◌, ◌≡◌, refl, List, [], ◌∷◌, ◌++◌, length, replicate, ℤ, pos}
use Rattle.std.proofs.Common.{arith, sym, ap, subst, lit≤}
use Rattle.std.proofs.lemmas.List.{length-replicate}
use Rattle.meaning.specs.Grammar.{Grammar}
use Rattle.meaning.specs.Judgement.{Accepted}
use Rattle.meaning.specs.Calls.{Status, running, waiting, closed, outer, inner, Record, Stacks, refused, closed_record}
use Rattle.meaning.specs.PublicCalls.{area_length, written}
use Rattle.meaning_inner.specs.Inner.{register_base}
use Rattle.meaning_inner.specs.InnerLists.{Both}
use Rattle.meaning_statements.specs.InnerStatements.{both_back, is_third, opening_effect, Belongs, Kept}
use Rattle.meaning.specs.Examples.WordsAndTags.{words}
use Rattle.meaning.specs.Examples.TableRows.{bytes}
use Rattle.meaning.specs.Examples.Samples.{small}
use Rattle.meaning.specs.Examples.CallRows.{m, record_of, stacks}

abbrev pub program : Grammar → List ℕ
program g = 7 ∷ length g.productions ∷ []

abbrev pub area : List ℕ
area = replicate 16384 5

pub long : area_length ≤ length area
long = subst (λ n. area_length ≤ n) (sym (length-replicate {A = ℕ} 16384 5)) (lit≤ tt)

abbrev pub the_outer : Status → Record
the_outer s = record_of s outer 2 11 7 4

abbrev pub the_inner : Status → ℕ → ℕ → ℕ → ℕ → Record
the_inner s t n rs ps = record_of s (inner 7 4) t n rs ps

-- the outer run's own cells, and the stretch above them
abbrev pub over : List ℤ → List ℕ → Stacks
over rs ps = stacks ((m ∷ m ∷ pos 0 ∷ m ∷ pos 0 ∷ m ∷ pos 1 ∷ []) ++ rs) ((32768 ∷ 0 ∷ 257 ∷ 513 ∷ []) ++ ps)

abbrev pub stopped : Stacks
stopped = over (replicate 9 m) (replicate 5 0)

abbrev pub two : Record → Record → Stacks → Both
two o i s = record { outer_state = o; inner_state = i; stacks = s }

-- a number for each state
abbrev pub state_number : Status → ℕ
state_number running = 1
state_number waiting = 2
state_number closed = 0

-- ---- which records belong together

other_registers : Belongs (record_of waiting outer 2 11 6 4) (the_inner running 1 7 5 3) → ⊥
other_registers b = omega (arith, ap register_base b.begins)

-- ---- what is left of the outer run

-- a mark that stays
mark_stays : Kept (the_outer running) stopped (two (the_outer waiting) (the_inner closed 1 14 1 1) stopped) → ⊥
mark_stays k = omega (arith, ap (λ r. state_number r.status) (k.restored refl).0)

-- ---- what is turned back: numbers, records and the area

third_run : (a : Accepted bytes words) (n : (the_outer waiting).status ≡ closed → ⊥) → opening_effect program bytes small area (the_outer waiting) stopped (is_third long words a n refl) ≡ both_back (refused 40 0) (the_outer waiting) closed_record stopped (written (program words) area)
third_run a n = refl
