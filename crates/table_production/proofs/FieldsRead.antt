-- The field of a production read, by its head and its symbols.
use Prim.Native.Nat.{ℕ, ◌+◌}
use mathlib.Core.Path.{◌≡◌, refl, sym, ◌∙◌, ap, subst}
use Rattle.std.specs.Prelude.{Option, Some, None, Err}
use Rattle.std.specs.Option.{is_some, ok_or}
use Rattle.nonterminal_set.specs.declared.NonterminalSet.{NonterminalSet}
use Rattle.refusals.specs.declared.TableFault.{TableFault}
use Rattle.refusals.specs.declared.TableFault.TheVariants.{Unknown}
use Rattle.refusals.specs.Numbers.{fault_number}
use Rattle.table_rules.proofs.Faults.{fault_some}
use mathlib.Core.List.{List}
use native.Mathlib.Omega.{arith}
use lib.ListN.{length}
use Rattle.outline.specs.Images.{rows_length}
use Rattle.table_fields.specs.Judge.{symbols_known}
use Rattle.table_fields.proofs.Rest.{body_length}
use Rattle.table_rows.specs.RowWritten.{Copied, RightWord}
use Rattle.table_occurrences.specs.OccurrenceBits.{Filled}
use Rattle.table_occurrence_words.specs.Placed.{input_at, other_at, RightPlaced}
use Rattle.table_production.specs.Productions.{width_in, body_in, HeadJudged, FieldRead}

module _ (t : List ℕ) (at p terminals nonterminals carrying : ℕ) (inherited synthesized : List ℕ) where
  pub field_refused :
      (f : TableFault) → HeadJudged t at p nonterminals (fault_number f) → (rows inputs settled : List ℕ) → length rows ≡ rows_length
      → FieldRead t at p terminals nonterminals carrying inherited synthesized rows rows inputs settled (Err f)
  field_refused f h rows inputs settled long = record { judged = h.refused (fault_some f) terminals; kept = long; copied = tt; worded = tt; placed = tt }

  module _ (h : HeadJudged t at p nonterminals 0) (part rows₀ rows inputs settled : List ℕ) (is-part : part ≡ body_in t at) where
    symbols : (right : Option NonterminalSet) → RightPlaced rows₀ p part terminals nonterminals carrying inherited synthesized rows inputs settled right → symbols_known terminals nonterminals (body_in t at) 2 ≡ is_some right
    symbols right r = sym (r.is_known ∙ ap (λ (b : List ℕ). symbols_known terminals nonterminals b 2) is-part)

    long : width_in t at + 2 ≡ length part
    long = let turned : width_in t at + 2 ≡ 2 + width_in t at = omega arith in turned ∙ sym (ap length is-part ∙ body_length t at (2 + width_in t at) (omega (arith, h.long refl)))

    pub field_read :
        (right : Option NonterminalSet) → RightPlaced rows₀ p part terminals nonterminals carrying inherited synthesized rows inputs settled right
        → FieldRead t at p terminals nonterminals carrying inherited synthesized rows₀ rows inputs settled (ok_or right Unknown)
    field_read None r = record { judged = h.unknown refl terminals (symbols None r); kept = r.kept; copied = tt; worded = tt; placed = tt }
    field_read (Some word) r =
        record {
          judged = h.fine refl terminals (symbols (Some word) r);
          kept = r.kept;
          copied = subst (λ (b : List ℕ). Copied rows₀ p b rows (length b)) is-part (r.copied refl);
          worded = subst (λ (b : List ℕ). RightWord b word.0) is-part r.worded;
          placed = (
            subst (λ (b : List ℕ). Filled (input_at carrying inherited synthesized b) (width_in t at) 0 inputs) is-part (r.inputs_filled refl (width_in t at) long),
            subst (λ (b : List ℕ). Filled (other_at carrying inherited synthesized b) (width_in t at) 65535 settled) is-part (r.others_filled refl (width_in t at) long),
          );
        }
