-- 02 (i): a sheet's call has only one effect, since a segment has only one tree.
use Rattle.std.specs.Prelude.{◌≡◌, refl, Bool, true, false, length, eqb}
use Rattle.std.proofs.Common.{sym, ap, ◌∙◌}
use Rattle.meaning.specs.Grammar.{Grammar, leaves}
use Rattle.meaning.specs.Table.{grammar_of}
use Rattle.meaning.specs.Judgement.{Accepted}
use Rattle.meaning.specs.Calls.{Answer, more, value, refused, table_refused, tokens_from}
use Rattle.meaning.specs.PublicCalls.{Checked, usable, unusable, check}
use Rattle.meaning_sheet.specs.Sheet.{sheet_of}
use Rattle.meaning_sheet.specs.SheetCalls.{with_sheet, stack_run_value, stacks_for, AfterRun, WhenEven, WhenChecked, SheetsOnce}
use Rattle.theory_answers.specs.Called.{usable_accepted}
use Rattle.theory_complete.specs.CompleteUnique.{only}

pub sheets_once : SheetsOnce
sheets_once bs r p ks vs out e f x y = go (check bs) refl x y
  where
    run : (g : Grammar) → Accepted bs g → (a : Answer) → AfterRun g (leaves g (tokens_from ks vs)) a out e → AfterRun g (leaves g (tokens_from ks vs)) a out f → e ≡ f
    run g k (more n) x y = absurd x
    run g k (value v n) x y = x.2 ∙ (ap (λ t. with_sheet v n (sheet_of t) out) (only bs g k (leaves g (tokens_from ks vs)) x.0 y.0 x.1 y.1) ∙ sym y.2)
    run g k (refused j n) x y = x ∙ sym y
    run g k (table_refused j o) x y = absurd x

    even : (g : Grammar) → Accepted bs g → (b : Bool) → WhenEven b g r p ks vs out e → WhenEven b g r p ks vs out f → e ≡ f
    even g k false x y = x ∙ sym y
    even g k true x y = run g k (stack_run_value g (stacks_for r p) ks vs) x y

    go : (k : Checked) → check bs ≡ k → WhenChecked k r p ks vs out e → WhenChecked k r p ks vs out f → e ≡ f
    go (unusable n o) h x y = x ∙ sym y
    go (usable s) h x y = even (grammar_of s) (usable_accepted bs s h) (eqb (length ks) (length vs)) x y
