use Rattle.std.proofs.Common.{sym, ◌∙◌, le_refl, ◌≡◌, ◌≤◌, arith, rules, ℕ}
use Rattle.std.specs.Prelude.{Option, None}
use borrow.Author.Tests.{eqb-true, not-false}
use Rattle.meaning.specs.Limits.{productions_limit}
use Rattle.outline.specs.Images.{image_of}
use Rattle.clash.specs.Clashing.{given_place, crossing_clear, crossing_clashes}
use Rattle.clash.proofs.lowest_clash.Goals as goal

pub first_crossing-requires : goal.first_crossing-requires
first_crossing-requires c = image_of c.requires.productions.rows_of

pub returns-in_err-first : goal.returns-in_err-first
returns-in_err-first c =
    let none : ◌≡◌ {A = Option ℕ} c.from_residual.result None = search rules in
    rw none (crossing_clear c.requires (le_refl _) c.in_err-first.ensures)

pub has_entry-requires : goal.has_entry-requires
has_entry-requires c =
    let few : c.args.count ≤ productions_limit = (image_of c.requires.productions.rows_of).few in
    let first = c.in_ok-first.ensures in
    (omega (arith, few, first.0), given_place c.requires _ first.0)

pub returns-then-not-has_entry : goal.returns-then-not-has_entry
returns-then-not-has_entry c =
    let first = c.in_ok-first.ensures in
    let none = eqb-true _ _ (not-false _ (sym c.has_entry.ensures ∙ c.if-not-has_entry.true)) in
    (first.0, crossing_clashes c.requires first.0 first.2 none, crossing_clear c.requires (omega (arith, first.0)) first.1)

pub meeting-met-requires : goal.meeting-met-requires
meeting-met-requires c = image_of c.requires.productions.rows_of
