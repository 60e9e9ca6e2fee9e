-- The set's call by what it begins with: 30, the table, and its program written.
use Rattle.std.specs.Prelude.{ℕ, ◌≡◌, Bool, true, false, List, length, ltb, ℤ}
use Rattle.std.proofs.Common.{arith, sym, ap, ap₂, ◌∙◌, subst, le-ltb}
use Rattle.meaning.specs.Table.{grammar_of}
use Rattle.meaning.specs.Program.{program_of}
use Rattle.meaning.specs.Calls as Calls
use Rattle.meaning.specs.Calls.{Record, Stacks, more, value, refused, table_refused, as_brought}
use Rattle.meaning.specs.PublicCalls.{Checked, usable, unusable, check, area_length, written, Effect, effect}
use Rattle.meaning_preview.specs.Preview.{MayEffect, may_effect, turned, may_of, mays}
use Rattle.prepare.specs.Making.{ProgramStands}
use Rattle.records.specs.declared.Answer.{Answer}
use Rattle.records.specs.Records.{answer_is}
use Rattle.prepare.specs.declared.Begun.{Begun}
use Rattle.prepare.specs.declared.Begun.TheVariants.{Turned}
use Rattle.prepare.specs.Beginning.{TurnedBack, Case, BegunAs}

abbrev moves_in : Calls.Answer → ℕ
moves_in (more n) = n
moves_in (value v n) = n
moves_in (refused k n) = n
moves_in (table_refused k o) = o

module _ (t area : List ℕ) (r : Record) (m s : Stacks) (v : ℤ) where
  abbrev by_checked : Checked → MayEffect
  by_checked x = elim x as (λ z. MayEffect) [ unusable n o ↦ may_effect (turned (table_refused n o)) s area | usable y ↦ may_of (grammar_of y) r m s v (written (program_of (grammar_of y)) area) ]

  abbrev by_both : Bool → Checked → MayEffect
  by_both b x = elim b as (λ z. MayEffect) [ true ↦ may_effect (turned (refused 30 0)) s area | false ↦ by_checked x ]

  abbrev called_by : Bool → Checked → Calls.Answer → Effect
  called_by b x z = elim b as (λ y. Effect) [
    | true ↦ effect (as_brought (refused 30 0) r s) area
    | false ↦ elim x as (λ y. Effect) [ unusable n f ↦ effect (as_brought (table_refused n f) r s) area | usable y ↦ effect (as_brought z r s) (written (program_of (grammar_of y)) area) ]
  ]

  turned_back_lem : (a : Answer) → TurnedBack t area a → may_effect (turned (answer_is a)) s area ≡ mays program_of t area r m s v
  turned_back_lem a e = go (ltb (length area) area_length) (check t) (λ z. ap (λ (y : Effect). y.answer) (e r s (λ g. as_brought z r s)))
    where
      go : (b : Bool) (x : Checked) → ((z : Calls.Answer) → (called_by b x z).answer ≡ answer_is a) → may_effect (turned (answer_is a)) s area ≡ by_both b x
      go true x e = ap (λ z. may_effect (turned z) s area) (sym (e (more 0)))
      go false (unusable n f) e = ap (λ z. may_effect (turned z) s area) (sym (e (more 0)))
      go false (usable y) e =
          let z : ◌≡◌ {A = ℕ} 0 1 = ap moves_in (e (more 0) ∙ sym (e (more 1))) in
          absurd (omega arith)

  pub turned_mays : {area' : List ℕ} {b : Begun} → BegunAs t area area' b → (a : Answer) → b ≡ Turned a → may_effect (turned (answer_is a)) s area' ≡ mays program_of t area r m s v
  turned_mays q a e =
      let z = subst (Case t area _) e q.case in
      ap (may_effect (turned (answer_is a)) s) z.1 ∙ turned_back_lem a z.0

  pub standing_mays : {area' : List ℕ} {size : ℕ} (x : ProgramStands t area area' size) (e : MayEffect) → e ≡ may_of (grammar_of x.state) r m s v area' → e ≡ mays program_of t area r m s v
  standing_mays x e q = q ∙ (ap (may_of (grammar_of x.state) r m s v) x.is_written ∙ sym (ap₂ by_both (le-ltb (length area) area_length x.long) x.is_usable))
