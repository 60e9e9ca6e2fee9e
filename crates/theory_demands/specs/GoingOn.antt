-- A list of calls goes on with any call.
use Rattle.std.specs.Prelude.{ℕ, ◌≤◌, ◌≡◌, refl, Bool, true, false, List, ◌++◌, length, T}
use Rattle.std.proofs.Common.{sym, ap, ◌∙◌, subst, append-nil}
use Rattle.meaning.specs.Grammar.{Grammar, Token, leaves}
use Rattle.meaning.specs.Judgement.{Accepted}
use Rattle.meaning.specs.Calls.{is_open, Record, Stacks, Answer}
use Rattle.meaning.specs.PublicCalls.{Call, feed, finish, area_length, Effect, performs}
use Rattle.meaning_statements.specs.CallStatements.{handed_back, Lendable, Even, tokens_of, Met, Case, short, bad_table, is_closed, is_waiting, is_inner, unfit, uneven, met}
use Rattle.meaning_statements.specs.Statements.{History, opened, counts_for_nothing, inner_ended_value, fed, finished, ends, GoesOn}
use Rattle.theory_table.specs.AcceptedTable.{accepted_well_formed}
use Rattle.theory_answers.specs.Answers.{uneven_lists}
use Rattle.theory_answers.specs.TurnedBack.{short_area, bad_table_lem, bad_state, all_cases}
use Rattle.theory_inner.specs.Proved.{outer_kept}
use Rattle.theory_sound.specs.Histories.{runs, finish_run}
use Rattle.theory_demands.specs.ByGrammar.{performs_is, by_grammar}

module _ (program : Grammar → List ℕ) (bs : List ℕ) (g : Grammar) (a : Accepted bs g) (m₀ : Stacks) where
  -- a finish that counted closed the record
  over_closed : {ts : List Token} {is_over : Bool} {r : Record} {m : Stacks} → History program bs m₀ ts is_over r m → is_over ≡ true → is_open r ≡ false
  over_closed (opened area h) e = absurd (subst T (sym e) tt)
  over_closed (counts_for_nothing other area c h x y) e = over_closed h e
  over_closed (inner_ended_value {r = r} {m = m} outer_table inner_table area ss h x c) e = ap is_open ((outer_kept program outer_table inner_table area r m x ss).restored c).0 ∙ over_closed h e
  over_closed (fed area ks vs t x h l o) e = absurd (subst T (sym e) tt)
  over_closed (finished {ts = ts} {r = r} {m = m} area h l o) e =
      let f = accepted_well_formed bs g a in
      let run = finish_run g f m₀ (leaves g ts) r m (runs g f m₀ (leaves g ts) false r m (by_grammar program bs g a h)) o in
      ap (λ z. is_open z.state) (performs_is program bs g a area r m finish l) ∙ ap is_open run.is_record

  still_open : (ts : List Token) (is_over : Bool) (r : Record) (m : Stacks) → History program bs m₀ ts is_over r m → is_open r ≡ true → History program bs m₀ ts false r m
  still_open ts true r m h o = absurd (subst T (sym o ∙ over_closed h refl) tt)
  still_open ts false r m h o = h

  module _ (ts : List Token) (is_over : Bool) (r : Record) (m : Stacks) (h : History program bs m₀ ts is_over r m) (other area : List ℕ) (c : Call) where
    abbrev Onward : Effect → Type 0
    Onward e = History program bs m₀ ts is_over e.state e.stacks

    -- with record and stacks as they were
    as_brought_lem : (k : Answer) (words : List ℕ) → performs program other area r m c ≡ handed_back k r m words → Onward (performs program other area r m c)
    as_brought_lem k words e = subst Onward (sym e) (counts_for_nothing other area c h (ap (λ z. z.state) e) (ap (λ z. z.stacks) e))

    turned_back_lem : ((g : Grammar) → Met other g area r m → Even c → ⊥) → Onward (performs program other area r m c)
    turned_back_lem never = go (all_cases other area r m c).0
      where
        go : Case other area r m c → Onward (performs program other area r m c)
        go (short l) = as_brought_lem _ _ (short_area program other area r m c l).1
        go (bad_table l n o j) = as_brought_lem _ _ (bad_table_lem program other area r m c n o l j).1
        go (is_closed l g b e) = as_brought_lem _ _ ((bad_state program other area g r m c l b).0 e)
        go (is_waiting l g b e f) = as_brought_lem _ _ ((bad_state program other area g r m c l b).1 e f)
        go (is_inner l g b e f) = as_brought_lem _ _ ((bad_state program other area g r m c l b).2 e f)
        go (unfit l g b e f) = as_brought_lem _ _ ((bad_state program other area g r m c l b).3 e f)
        go (uneven g x e) = as_brought_lem _ _ (uneven_lists program other area g r m c x e)
        go (met g x e) = absurd (never g x e)

pub goes_on : GoesOn
goes_on program bs g m₀ ts is_over r m a h = (on, λ other area c never. turned_back_lem program bs g a m₀ ts is_over r m h other area c never)
  where
    h' : is_open r ≡ true → History program bs m₀ ts false r m
    h' o = still_open program bs g a m₀ ts is_over r m h o

    on : (area : List ℕ) (c : Call) → Lendable c → Even c → area_length ≤ length area → is_open r ≡ true → History program bs m₀ (ts ++ tokens_of c) (ends c) (performs program bs area r m c).state (performs program bs area r m c).stacks
    on area (feed ks vs) t e l o = fed area ks vs t e (h' o) l o
    on area finish t e l o = subst (λ z. History program bs m₀ z true (performs program bs area r m finish).state (performs program bs area r m finish).stacks) (sym (append-nil ts)) (finished area (h' o) l o)
