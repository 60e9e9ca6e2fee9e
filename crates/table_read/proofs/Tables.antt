-- The whole table, from its header on, and from its counts on.
use Prim.Native.Nat.{ℕ, ◌+◌, ◌*◌, ◌≤◌}
use mathlib.Core.Path.{◌≡◌, sym, ◌∙◌, ap, ap₂, subst}
use mathlib.Core.List.{List}
use native.Mathlib.Omega.{arith}
use lib.ListN.{length}
use Rattle.std.specs.Prelude.{Result, Err}
use Rattle.meaning.specs.Limits.{table_limit}
use Rattle.meaning.specs.Table.{Read, malformed, read_table}
use Rattle.refusals.specs.declared.TableRefusal.{TableRefusal}
use Rattle.refusals.specs.Numbers.{fault_number}
use Rattle.table_fields.specs.Field.{rest}
use Rattle.table_fields.proofs.Rest.{rest_table, judged_fine, judged_refused}
use Rattle.outline.specs.declared.Sizes.{Sizes}
use Rattle.table_carriers.specs.declared.Carried.{Carried}
use Rattle.table_carriers.specs.declared.RefusedCarrier.{RefusedCarrier}
use Rattle.table_counts.specs.Refused.{number_in, offset_in}
use Rattle.table_counts.specs.Counted.{header_in, counts_up_to, offsets_up_to, counted, HeaderJudged, CountsRead}
use Rattle.table_counts.proofs.Faulty.{faulty}
use Rattle.table.specs.Laid.{named}
use Rattle.table_carriers.specs.Named.{CarriersDone, CarrierRefused}
use Rattle.table_production.specs.Productions.{HeaderRead, Begun}
use Rattle.table.specs.Answer.{Answers, AnswersFrom}
use Rattle.table_counts.proofs.Counting.{length_counts}

-- an answer that is a refusal
pub refused_reads : (q : Result Sizes TableRefusal) (e : TableRefusal) → q ≡ Err e → (inherited synthesized rows offsets : List ℕ) (x : Read) → x ≡ malformed (fault_number e.fault) e.offset → Answers q inherited synthesized rows offsets x
refused_reads q e i inherited synthesized rows offsets x r = subst (λ z. Answers z inherited synthesized rows offsets x) (sym i) r

module _ (t : List ℕ) (short : length t ≤ table_limit) (number : ℕ) (h : HeaderJudged t number) where
  pub header_answer : (e : TableRefusal) → fault_number e.fault ≡ number → e.offset ≡ 0 → read_table t ≡ malformed (fault_number e.fault) e.offset
  header_answer e p q =
      rest_table t short ∙ h.read ∙ judged_refused number 0 _ (λ z. faulty e.fault (p ∙ z)) ∙ ap₂ malformed (sym p) (sym q)

  module _ (fine : number ≡ 0) (n : ℕ) (inherited synthesized : List ℕ) (r : Result (Unit {0}) TableRefusal) (c : CountsRead t n inherited synthesized r) where
    pub counts_answer : (e : TableRefusal) → r ≡ Err e → read_table t ≡ malformed (fault_number e.fault) e.offset
    counts_answer e i =
        let p : number_in r ≡ fault_number e.fault = ap number_in i in
        let q : offset_in r ≡ e.offset = ap offset_in i in
        rest_table t short ∙ h.read ∙ judged_fine number 0 _ fine ∙ c.read ∙ judged_refused (number_in r) (offset_in r) _ (λ z. faulty e.fault (sym p ∙ z)) ∙ ap₂ malformed p q

    pub productions_answer :
        (q : Result Sizes TableRefusal) (rows offsets : List ℕ) → number_in r ≡ 0
        → Answers q inherited synthesized rows offsets (rest t (counted t inherited synthesized n) (7 + 5 * n))
        → Answers q inherited synthesized rows offsets (read_table t)
    productions_answer q rows offsets m a =
        subst
        (Answers q inherited synthesized rows offsets)
        (sym (rest_table t short ∙ h.read ∙ judged_fine number 0 _ fine ∙ c.read ∙ judged_fine (number_in r) (offset_in r) _ m))
        a

-- ---- from the last tag 2 field on

module _ (t : List ℕ) (sizes : Sizes) (inherited synthesized : List ℕ) (ready : HeaderRead t sizes inherited synthesized) where
  pub carriers_refused : (e : RefusedCarrier) → CarrierRefused t (7 + 5 * sizes.nonterminals) sizes.terminals e
      → rest t (counted t inherited synthesized sizes.nonterminals) (7 + 5 * sizes.nonterminals) ≡ malformed (fault_number e.fault) e.at
  carriers_refused e r =
      r.read (header_in t) (counts_up_to inherited synthesized sizes.nonterminals) (offsets_up_to sizes.nonterminals) (sym ready.terminals)
      (omega (arith, ready.nonterminals, length_counts inherited synthesized sizes.nonterminals))

  module _ (c : Carried) (r : CarriersDone t (7 + 5 * sizes.nonterminals) sizes.terminals c) where
    abbrev known : Sizes
    known = record { terminals = sizes.terminals; nonterminals = sizes.nonterminals; start = sizes.start; result = sizes.result; productions = sizes.productions; carrying = c.carrying }

    pub begun : Begun t c.at known inherited synthesized
    begun =
        record {
          ready = record {
            terminals = ready.terminals;
            nonterminals = ready.nonterminals;
            start = ready.start;
            result = ready.result;
            few = ready.few;
            tokens = ready.tokens;
            long = ready.long;
            short = ready.short;
            small = ready.small;
            first = ready.first;
            second = ready.second;
          };
          inside = r.inside;
          other = r.other;
        }

    read_on : rest t (counted t inherited synthesized sizes.nonterminals) (7 + 5 * sizes.nonterminals) ≡ rest t (named t inherited synthesized sizes.nonterminals r.list) c.at
    read_on =
        r.read (header_in t) (counts_up_to inherited synthesized sizes.nonterminals) (offsets_up_to sizes.nonterminals) (sym ready.terminals)
        (omega (arith, ready.nonterminals, length_counts inherited synthesized sizes.nonterminals))

    pub carriers_answer :
        (q : Result Sizes TableRefusal) (rows offsets : List ℕ) → AnswersFrom t c.at known q inherited synthesized rows offsets
        → Answers q inherited synthesized rows offsets (rest t (counted t inherited synthesized sizes.nonterminals) (7 + 5 * sizes.nonterminals))
    carriers_answer q rows offsets a = subst (Answers q inherited synthesized rows offsets) (sym read_on) (a r.list r.held)
