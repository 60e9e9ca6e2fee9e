-- The cases of a program made of a table.
use Prim.Native.Nat.{ℕ, ◌≤◌, ◌<◌}
use native.Mathlib.Omega.{arith}
use mathlib.Core.Path.{◌≡◌, sym, ap, ap₂, ◌∙◌, subst}
use mathlib.Core.Bool.{Bool, true, false}
use mathlib.Core.List.{List}
use lib.ListN.{length}
use borrow.Author.Tests.{lt-ltb, le-ltb}
use Rattle.meaning.specs.Table.{grammar_of}
use Rattle.meaning.specs.Program.{program_of}
use Rattle.meaning.specs.PublicCalls.{Checked, usable, unusable, check, area_length, written, turned, programmed, made, made_of}
use Rattle.meaning.specs.PublicCalls as Calls
use Rattle.theory_program.specs.Addresses.{Begins, written_begins}
use Rattle.outline.specs.declared.Sizes.{Sizes}
use Rattle.outline.specs.Outline.{state_in, grammar_in}
use Rattle.checker.specs.Judging.{Judges}
use Rattle.program.specs.Building.{ProgramWrote}
use Rattle.checker.proofs.Cases.{accepted_case}
use Rattle.std.specs.Prelude.{Result, Ok}
use Rattle.refusals.specs.declared.TableRefusal.{TableRefusal}
use Rattle.prepare.specs.declared.Made.{Made}
use Rattle.prepare.specs.declared.Made.TheVariants.{Short, Refused, Written}
use Rattle.prepare.specs.Making.{made_is, ProgramStands, Case, MadeAs}

-- ---- an accepted table

module _ (t inherited synthesized rows offsets sets : List ℕ) (q : Result Sizes TableRefusal) (j : Judges t inherited synthesized rows offsets sets q) (area : List ℕ) (l : area_length ≤ length area) where
  pub stands : (area' : List ℕ) (size : ℕ) (sizes : Sizes) → q ≡ Ok sizes → ProgramWrote (grammar_in t) area area' size → ProgramStands t area area' size
  unfolding grammar_in
  stands area' size sizes e z =
      let x = accepted_case t inherited synthesized rows offsets sets q j sizes e in
      record {
        long = l;
        state = state_in t;
        is_usable = x.is_usable;
        formed = x.outlined.outline.productions.rows_of.sound;
        is_written = z.memory;
        is_size = z.size;
        begins = subst (Begins (grammar_in t)) (sym z.memory) (written_begins (grammar_in t) area);
      }

-- ---- the cases fix 01's number and the area

module _ (t area : List ℕ) where
  abbrev by_table : Checked → Calls.Made
  by_table x = elim x [ unusable n o ↦ made (turned n o) area | usable s ↦ made (programmed (length (program_of (grammar_of s)))) (written (program_of (grammar_of s)) area) ]

  abbrev by_area : Bool → Calls.Made
  by_area b = elim b [ true ↦ made (turned 30 0) area | false ↦ by_table (check t) ]

made_said : (t area area' : List ℕ) (m : Made) → Case t area area' m → made (made_is m) area' ≡ made_of t area
made_said t area area' Short z = ap (made (turned 30 0)) z.1 ∙ sym (ap (by_area t area) (lt-ltb (length area) area_length z.0))
made_said t area area' (Refused n o) z = ap (made (turned n o)) z.2 ∙ sym (ap (by_area t area) (le-ltb (length area) area_length z.0) ∙ ap (by_table t area) z.1)
made_said t area area' (Written size) z = ap₂ (λ k a. made (programmed k) a) z.is_size z.is_written ∙ sym (ap (by_area t area) (le-ltb (length area) area_length z.long) ∙ ap (by_table t area) z.is_usable)

-- both contracts at once
pub answered : (t area area' : List ℕ) (m : Made) → Case t area area' m → (made (made_is m) area' ≡ made_of t area) × MadeAs t area area' m
answered t area area' m z = (made_said t area area' m z, record { case = z })

-- ---- the cases of the answer

module _ {t area area' : List ℕ} {m : Made} (q : MadeAs t area area' m) where
  pub short_made : m ≡ Short → (length area < area_length) × (area' ≡ area)
  short_made e = subst (Case t area area') e q.case

  pub refused_made : (n o : ℕ) → m ≡ Refused n o → (area_length ≤ length area) × (check t ≡ unusable n o) × (area' ≡ area)
  refused_made n o e = subst (Case t area area') e q.case

  pub written_made : (size : ℕ) → m ≡ Written size → ProgramStands t area area' size
  written_made size e = subst (Case t area area') e q.case

  pub not_short : area_length ≤ length area → m ≡ Short → ⊥
  not_short l e = omega (arith, (short_made e).0)
