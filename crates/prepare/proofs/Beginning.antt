-- The cases of what a call begins with.
use Prim.Native.Nat.{ℕ, ◌<◌}
use native.Mathlib.Omega.{arith}
use mathlib.Core.Path.{◌≡◌, sym, ap, ◌∙◌, subst}
use mathlib.Core.List.{List}
use lib.ListN.{length}
use Rattle.meaning.specs.Grammar.{Grammar}
use Rattle.meaning.specs.Program.{program_of}
use Rattle.meaning.specs.Calls.{Record, Stacks, Called, as_brought}
use Rattle.meaning.specs.PublicCalls.{effect, called}
use Rattle.theory_program.specs.Addresses.{segment_at}
use Rattle.theory_program.specs.WordsStand.{stands_within}
use Rattle.prepare.specs.declared.Made as Code
use Rattle.prepare.specs.declared.Made.TheVariants as Variant
use Rattle.prepare.proofs.Cases.{short_made, refused_made, written_made}
use Rattle.prepare.specs.Making.{MadeAs, ProgramStands}
use Rattle.records.specs.declared.Answer.{Answer}
use Rattle.records.specs.declared.Answer.TheVariants.{Refused, TableRefused}
use Rattle.prepare.specs.declared.Begun.{Begun}
use Rattle.prepare.specs.declared.Begun.TheVariants.{Turned, Ready}
use Rattle.records.specs.Records.{answer_is}
use Rattle.prepare.specs.Beginning.{Case, BegunAs, called_short, called_refused}

-- ---- from the program that is made

module _ {t area area' : List ℕ} {p : Code.Made} (q : MadeAs t area area' p) where
  pub begun_short : p ≡ Variant.Short → BegunAs t area area' (Turned (Refused 30 0))
  begun_short e =
      let z = short_made q e in
      record { case = ((λ r m made. called_short t area r m made z.0), z.1) }

  pub begun_refused : (n o : ℕ) → p ≡ Variant.Refused n o → BegunAs t area area' (Turned (TableRefused n o))
  begun_refused n o e =
      let z = refused_made q n o e in
      record { case = ((λ r m made. called_refused t area r m made z.0 n o z.1), z.2) }

  pub begun_ready : (size : ℕ) → p ≡ Variant.Written size → BegunAs t area area' Ready
  begun_ready size e = record { case = (size, written_made q size e) }

-- ---- the answer's cases

module _ {t area area' : List ℕ} {b : Begun} (q : BegunAs t area area' b) where
  pub ready_case : b ≡ Ready → (size : ℕ) × ProgramStands t area area' size
  ready_case e = subst (Case t area area') e q.case

  pub turned_case : (a : Answer) → b ≡ Turned a → (r : Record) (m : Stacks) (made : Grammar → Called) → effect (as_brought (answer_is a) r m) area' ≡ called program_of t area r m made
  turned_case a e r m made =
      let z = subst (Case t area area') e q.case in
      ap (effect (as_brought (answer_is a) r m)) z.1 ∙ sym (z.0 r m made)

pub area_long : {t area area' : List ℕ} {size : ℕ} → ProgramStands t area area' size → 4 < length area'
area_long a = omega (arith, stands_within (segment_at a.begins))
