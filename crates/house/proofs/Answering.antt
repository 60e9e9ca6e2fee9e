-- An accepted table is ready to be written, and what the writer answers.
use Prim.Native.Nat.{ℕ, ◌≤◌, ◌<◌}
use native.Mathlib.Omega.{arith}
use mathlib.Core.Path.{◌≡◌, sym, ap, subst, ◌∙◌}
use mathlib.Core.List.{List, ◌++◌, map, reverse}
use lib.ListN.{length, get_or, take, length-map, length-reverse}
use lib.Seq.{length-take-le, get_or-take, ext_get_or}
use Rattle.meaning.specs.Table.{State, Entry, no_entry}
use Rattle.meaning.specs.Layout.{Bytes}
use Rattle.meaning.specs.PublicCalls.{usable, check}
use Rattle.meaning_house.specs.House.{writing, house_of}
use Rattle.theory_base.specs.Members.{map_at}
use Rattle.theory_table.specs.Reading.{table_reads}
use Rattle.theory_order.specs.Planning.{Planned, copied, TablePlan, table_plan}
use Rattle.theory_order.specs.Proved.{house_unusable, house_usable}
use Rattle.outline.specs.declared.Sizes.{Sizes}
use Rattle.outline.specs.Outline.{state_in, Outline, entries_are}
use Rattle.checker.specs.Judging.{Judges}
use Rattle.checker.proofs.Cases.{accepted_case, refused_case}
use Rattle.std.specs.Prelude.{Result, Ok, Err}
use Rattle.refusals.specs.declared.TableRefusal.{TableRefusal}
use Rattle.refusals.specs.declared.CallRefusal.{CallRefusal}
use Rattle.refusals.specs.declared.CallRefusal.TheVariants.{OfTable}
use Rattle.house_write.specs.Answers.{house_is}
use Rattle.house.specs.Answers.{PlanReady, Writes}

-- ---- an accepted table is

module _ (t inherited synthesized rows offsets : List ℕ) (sizes : Sizes) (bytes : Bytes t) (b : Outline t sizes inherited synthesized rows offsets) where
  abbrev s : State
  s = state_in t

  abbrev es : List Entry
  es = reverse s.entries

  many : sizes.productions ≡ length es
  many = entries_are b.productions ∙ sym (length-reverse s.entries)

  plan_of : TablePlan t s
  plan_of = table_plan t s bytes b.productions.is_read

  listed : sizes.productions ≤ length offsets
  listed = omega (arith, b.lengths, entries_are b.productions, plan_of.some)

  -- the offsets in the outline are those of the productions
  offsets_are : take sizes.productions offsets ≡ map (λ e. e.offset) es
  offsets_are =
      ext_get_or 0 (take sizes.productions offsets) (map (λ e. e.offset) es)
      (length-take-le sizes.productions offsets listed ∙ (many ∙ sym (length-map es (λ e. e.offset))))
      (λ i l.
      let m : i < sizes.productions = omega (arith, length-take-le sizes.productions offsets listed) in
      get_or-take sizes.productions offsets i 0 m ∙ (b.productions.offset i m ∙ sym (map_at (λ e. e.offset) es i no_entry 0 (omega (arith, many)))))

  first_is : get_or (map (λ e. e.offset) es) 0 0 ≡ get_or offsets 0 0
  first_is = ap (λ l. get_or l 0 0) (sym offsets_are) ∙ get_or-take sizes.productions offsets 0 0 (omega (arith, plan_of.some.0, entries_are b.productions))

  pub outline_ready : (size : ℕ) → size ≡ 1664 → PlanReady t offsets sizes.productions size
  outline_ready size e = record {
    plan = plan_of.plan;
    room = plan_of.room;
    planned = subst (λ l. Planned t l plan_of.plan plan_of.room) (sym offsets_are) plan_of.planned;
    fits = omega (arith, plan_of.few);
    small = omega arith;
    some = omega (arith, plan_of.some.0, entries_are b.productions);
    listed = listed;
    inside = omega (arith, plan_of.inside, first_is);
    short = (table_reads t s b.productions.is_read).0;
  }

  pub outline_writes : (size : ℕ) (e : size ≡ 1664) (out out' : List ℕ) (w : Result ℕ CallRefusal) → check t ≡ usable s → Writes t offsets sizes.productions size out out' w → house_is w out' ≡ house_of t out
  unfolding outline_ready
  outline_writes size e out out' w u h =
      h (outline_ready size e)
      ∙ (ap (λ z. writing z out) (ap (λ k. take k t ++ copied t plan_of.plan) (sym first_is) ∙ plan_of.bytes) ∙ sym (house_usable t s out u))

-- ---- the answers

module _ (t inherited synthesized rows offsets sets : List ℕ) (q : Result Sizes TableRefusal) (j : Judges t inherited synthesized rows offsets sets q) where
  pub answer_refused : (r : TableRefusal) → q ≡ Err r → (out : List ℕ) → house_is (Err (OfTable r)) out ≡ house_of t out
  answer_refused r e out = sym (house_unusable t _ _ out (refused_case t inherited synthesized rows offsets sets q j r e))

  module _ (bytes : Bytes t) (sizes : Sizes) (e : q ≡ Ok sizes) (size : ℕ) (k : size ≡ 1664) where
    pub answer_ready : PlanReady t offsets sizes.productions size
    answer_ready =
        let x = accepted_case t inherited synthesized rows offsets sets q j sizes e in
        outline_ready t inherited synthesized rows offsets sizes bytes x.outlined.outline size k

    pub answer_written : (out out' : List ℕ) (w : Result ℕ CallRefusal) → Writes t offsets sizes.productions size out out' w → house_is w out' ≡ house_of t out
    answer_written out out' w h =
        let x = accepted_case t inherited synthesized rows offsets sets q j sizes e in
        outline_writes t inherited synthesized rows offsets sizes bytes x.outlined.outline size k out out' w x.is_usable h
