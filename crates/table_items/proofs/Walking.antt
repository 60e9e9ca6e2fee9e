-- The rules and conditions of a production, one after the other.
use Prim.Native.Nat.{ℕ, suc, ◌+◌, ◌≤◌, ◌<◌}
use mathlib.Core.Path.{◌≡◌, refl, sym, ◌∙◌, ap, ap₂, subst}
use mathlib.Core.Bool.{Bool, true, false, ◌&&◌, ◌||◌, not, true≢false}
use mathlib.Core.List.{List, ◌∷◌}
use mathlib.Core.Logic.{⊎_elim}
use native.Mathlib.Omega.{arith}
use lib.Dec.{eqb}
use lib.ListN.{length}
use borrow.Author.Tests.{ne_eqb, eq-eqb, lt-ltb, not-true, not-false}
use Rattle.meaning.specs.Grammar.{Counts, Rule, Condition, Occurrence}
use Rattle.meaning.specs.Table.{byte, Header, Entry, at_first, at_any, stage, tag_stands, well_formed, malformed, current, judge_field, read_field, kind_of, rule_of, condition_of, last_complete}
use Rattle.table_fields.specs.Field.{Whole, Short, rest, judged, body_at}
use Rattle.table_fields.specs.Reads.{state_of, entry_of}
use Rattle.table_fields.proofs.Rest.{rest_end, rest_missing, judged_fine, judged_refused, step_short, step_field, calm_other, field_of}
use Rattle.table_fields.proofs.Judged.{judge_not, stage_later}
use Rattle.table_rules.specs.Rule.{Small, rule_fault, condition_fault}
use Rattle.table_rules.specs.Note.{Notes, rules_after, GapsAnswered}
use Rattle.table_rule_fields.proofs.RuleJudged.{rule_judged}
use Rattle.table_rule_fields.proofs.conditions.ConditionJudged.{condition_judged}
use Rattle.table_rule_fields.proofs.note.Noting.{notes_fine}
use Rattle.std.specs.Prelude.{Result, Ok, Err, IfOk}
use Rattle.std.specs.Result.{result_and}
use Rattle.refusals.specs.declared.TableFault.{TableFault}
use Rattle.refusals.specs.Numbers.{fault_number, fault_or_zero}
use Rattle.table_rules.proofs.Faults.{fault_some}
use Rattle.table_items.specs.declared.Items.{Items}
use Rattle.table_fields.specs.declared.Refused.{Refused}
use Rattle.table_items.specs.Progress.{Over, Setting, setting_of, Around, state_in, ItemTaken, Walked, Walking, ItemsRead, OneRead, ItemRead, Next, end_of, place_of}
use Rattle.table_counts.proofs.Steps.{end_by}
use Rattle.table_fields.proofs.Cases.{lt_or_le, nonzero}

pub fault_kept : {A B : Type 0} (r : Result A TableFault) (x : B) → fault_or_zero (result_and r (Ok x)) ≡ fault_or_zero r
fault_kept (Ok y) x = refl
fault_kept (Err f) x = refl

pub stage_any : (h : Header) (cs : List Counts) (os ws : List ℕ) (e : Entry) (es : List Entry) (r c : ℕ) → h.nonterminals ≤ length cs → stage (state_of h cs os ws (e ∷ es) r c) ≡ at_any
stage_any h cs os ws e es r c l =
    stage_later h cs os ws (e ∷ es) r c l ∙ ap (λ x. elim x [ true ↦ at_any | false ↦ at_first ]) (lt-ltb 0 (suc (length es)) (omega arith))

or_none : (x y z : Bool) → x ≡ false → y ≡ false → z ≡ false → x || y || z ≡ false
or_none false false false p q r = refl
or_none true y z p q r = absurd (true≢false p)
or_none false true z p q r = absurd (true≢false q)
or_none false false true p q r = absurd (true≢false r)

module _ (t : List ℕ) (at size r c width : ℕ) (inh syn note : List ℕ) (inside : at < length t) (other : byte t at ≡ 3 → ⊥) where
  abbrev g : ℕ → Setting
  g o = setting_of t o width inh syn

  pub use_cut : Short t at → ItemTaken t at size r c width inh syn note note 2
  use_cut h =
      record {
        read = λ o a rs cds nt. step_short t (state_in (g o) a rs cds r c) at inside (calm_other (state_in (g o) a rs cds r c) (byte t at) other) _ h;
        notes = λ o a rs cds nt z. absurd (nonzero 1 z);
        same = λ n. refl;
        whole = λ z. absurd (nonzero 1 z);
        kinds = λ z. absurd (nonzero 1 z);
      }

  module _ (w : Whole t at size) where
    abbrev b : List ℕ
    b = body_at t at size

    -- a judgement of the field gives the number of the whole
    by_judgement :
        (number o : ℕ) (a : Around (g o)) (rs : List (Rule Occurrence)) (cds : List (Condition Occurrence)) → judge_field (state_in (g o) a rs cds r c) (field_of at (byte t at) b) ≡ number
        → rest t (state_in (g o) a rs cds r c) at ≡ judged number at (rest t (read_field (state_in (g o) a rs cds r c) at (kind_of (byte t at)) b) (at + 3 + size))
    by_judgement number o a rs cds e =
        step_field t (state_in (g o) a rs cds r c) at inside (calm_other (state_in (g o) a rs cds r c) (byte t at) other) _ size w number e (λ z. refl)

    any_stage : (o : ℕ) (a : Around (g o)) (rs : List (Rule Occurrence)) (cds : List (Condition Occurrence)) → stage (state_in (g o) a rs cds r c) ≡ at_any
    any_stage o a rs cds = stage_any a.header a.counts a.offsets a.named (entry_of o a.left a.right rs cds) a.others r c a.all

    pub use_other : (byte t at ≡ 4 → ⊥) → (byte t at ≡ 5 → ⊥) → ItemTaken t at size r c width inh syn note note 3
    use_other n m =
        record {
          read = λ o a rs cds nt.
              by_judgement 3 o a rs cds
              (judge_not (state_in (g o) a rs cds r c) at (byte t at) b
              (ap (λ x. tag_stands x (byte t at)) (any_stage o a rs cds)
              ∙ or_none (eqb (byte t at) 3) (eqb (byte t at) 4) (eqb (byte t at) 5) (ne_eqb (byte t at) 3 other) (ne_eqb (byte t at) 4 n) (ne_eqb (byte t at) 5 m)));
          notes = λ o a rs cds nt z. absurd (nonzero 2 z);
          same = λ n. refl;
          whole = λ z. absurd (nonzero 2 z);
          kinds = λ z. absurd (nonzero 2 z);
        }

    module _ (small : Small width inh syn) (part : List ℕ) (is-part : part ≡ b) (number : ℕ) where
      -- the rules after the field, by its tag
      abbrev rules_by : (o : ℕ) → Around (g o) → List (Rule Occurrence) → List (Condition Occurrence) → ℕ → List (Rule Occurrence)
      rules_by o a rs cds tag = (current (read_field (state_in (g o) a rs cds r c) at (kind_of tag) b)).rules

      pub use_rule :
          (note' : List ℕ) → byte t at ≡ 4 → number ≡ rule_fault r width inh syn note part
          → ((rs : List (Rule Occurrence)) → Notes note rs → Notes note' (rules_after number part rs)) → ((number ≡ 0 → ⊥) → note' ≡ note)
          → ItemTaken t at size r c width inh syn note note' number
      use_rule note' tag e noted stays =
          let q : number ≡ rule_fault r width inh syn note b = e ∙ ap (rule_fault r width inh syn note) is-part in
          record {
            read = λ o a rs cds nt.
                by_judgement number o a rs cds
                (ap (λ (x : ℕ). judge_field (state_in (g o) a rs cds r c) (field_of at x b)) tag
                ∙ rule_judged a.header a.counts a.offsets a.named a.others r c o a.left a.right rs cds width inh syn note a.placed small nt b at (any_stage o a rs cds)
                ∙ sym q);
            notes = λ o a rs cds nt z.
                subst
                (λ (x : ℕ). Notes note' (rules_by o a rs cds x))
                (sym tag)
                (notes_fine note' b number rs z (subst (λ (x : List ℕ). Notes note' (rules_after number x rs)) is-part (noted rs nt)));
            same = stays;
            whole = λ z. w;
            kinds = λ z n. absurd (n tag);
          }

      pub use_condition : byte t at ≡ 5 → number ≡ condition_fault c width inh syn part → ItemTaken t at size r c width inh syn note note number
      use_condition tag e =
          let q : number ≡ condition_fault c width inh syn b = e ∙ ap (condition_fault c width inh syn) is-part in
          record {
            read = λ o a rs cds nt.
                by_judgement number o a rs cds
                (ap (λ (x : ℕ). judge_field (state_in (g o) a rs cds r c) (field_of at x b)) tag
                ∙ condition_judged a.header a.counts a.offsets a.named a.others r c o a.left a.right rs cds width inh syn a.placed b at (any_stage o a rs cds)
                ∙ sym q);
            notes = λ o a rs cds nt z. subst (λ (x : ℕ). Notes note (rules_by o a rs cds x)) (sym tag) nt;
            same = λ n. refl;
            whole = λ z. w;
            kinds = λ z n. tag;
          }

-- ---- the loop over the fields

module _ (t : List ℕ) (from offset width : ℕ) (inh syn : List ℕ) (r₀ c₀ : ℕ) (note₀ : List ℕ) where
  abbrev s : Setting
  s = setting_of t offset width inh syn

  pub walk_start : from ≤ length t → r₀ ≤ from → c₀ ≤ from → Walking t from offset width inh syn r₀ c₀ note₀ note₀ from r₀ c₀
  walk_start l m n =
      record {
        after = omega arith;
        inside = l;
        rules = m;
        conditions = n;
        walked = λ start p q h. h;
      }

  module _ (note : List ℕ) (at r c : ℕ) (w : Walking t from offset width inh syn r₀ c₀ note₀ note at r c) where
    module _ (size : ℕ) (note' : List ℕ) (number : ℕ) (j : ItemTaken t at size r c width inh syn note note' number) where
      pub walk_refused : (f : TableFault) → number ≡ fault_number f → (start p q : ℕ) → Walked s start p q note₀ from r₀ c₀ → ItemsRead s start p q (Err (record { fault = f; at = at }))
      walk_refused f e start p q h a =
          let m = w.walked start p q h a in
          m.3 ∙ j.read offset a m.0 m.1 m.2 ∙ judged_refused number at _ (λ z. fault_some f (sym e ∙ z)) ∙ ap (λ (x : ℕ). malformed x at) e

      module _ (fine : number ≡ 0) where
        abbrev b' : List ℕ
        b' = body_at t at size

        abbrev next : ℕ
        next = at + 3 + size

        -- the state after the field, by its tag, and the note of its rules
        onward :
            (a : Around s) (rs : List (Rule Occurrence)) (cds : List (Condition Occurrence)) → Notes note rs → (tag : ℕ) → byte t at ≡ tag
            → rest t (state_in s a rs cds r c) at ≡ rest t (read_field (state_in s a rs cds r c) at (kind_of tag) b') next
        onward a rs cds nt tag e =
            j.read offset a rs cds nt ∙ judged_fine number at _ fine
            ∙ ap (λ (x : ℕ). rest t (read_field (state_in s a rs cds r c) at (kind_of x) b') next) e

        notes_on :
            (a : Around s) (rs : List (Rule Occurrence)) (cds : List (Condition Occurrence)) → Notes note rs → (tag : ℕ) → byte t at ≡ tag
            → Notes note' (current (read_field (state_in s a rs cds r c) at (kind_of tag) b')).rules
        notes_on a rs cds nt tag e = subst (λ (x : ℕ). Notes note' (current (read_field (state_in s a rs cds r c) at (kind_of x) b')).rules) e (j.notes offset a rs cds nt fine)

        -- a rule or condition more
        walk_item :
            (r' c' : ℕ) → r' ≤ suc r → c' ≤ suc c
            → ((a : Around s) (rs : List (Rule Occurrence)) (cds : List (Condition Occurrence)) → Notes note rs
            → (rs' : List (Rule Occurrence)) × (cds' : List (Condition Occurrence)) × Notes note' rs' × (rest t (state_in s a rs cds r c) at ≡ rest t (state_in s a rs' cds' r' c') next))
            → Walking t from offset width inh syn r₀ c₀ note₀ note' next r' c'
        walk_item r' c' k l f =
            record {
              after = omega (arith, w.after);
              inside = (j.whole fine).inside;
              rules = omega (arith, w.rules);
              conditions = omega (arith, w.conditions);
              walked = λ start p q h a.
                  let m = w.walked start p q h a in
                  let n = f a m.0 m.1 m.2 in
                  (n.0, n.1, n.2, m.3 ∙ n.3);
            }

        pub walk_rule : byte t at ≡ 4 → Walking t from offset width inh syn r₀ c₀ note₀ note' next (r + 1) c
        walk_rule tag =
            let one : suc r ≡ r + 1 = omega arith in
            walk_item (r + 1) c (omega arith) (omega arith)
            (λ a rs cds nt. (
              rule_of b' ∷ rs,
              cds,
              notes_on a rs cds nt 4 tag,
              onward a rs cds nt 4 tag ∙ ap (λ (n : ℕ). rest t (state_in s a (rule_of b' ∷ rs) cds n c) next) one,
            ))

        pub walk_condition : (byte t at ≡ 4 → ⊥) → Walking t from offset width inh syn r₀ c₀ note₀ note' next r (c + 1)
        walk_condition n =
            let one : suc c ≡ c + 1 = omega arith in
            let tag = j.kinds fine n in
            walk_item r (c + 1) (omega arith) (omega arith)
            (λ a rs cds nt. (
              rs,
              condition_of b' ∷ cds,
              notes_on a rs cds nt 5 tag,
              onward a rs cds nt 5 tag ∙ ap (λ (k : ℕ). rest t (state_in s a rs (condition_of b' ∷ cds) r k) next) one,
            ))

    -- ---- the production is over

    module _ (over : Over t at) (gap : Bool) (answered : GapsAnswered width inh syn note gap) where
      gap_in : (a : Around s) (rs : List (Rule Occurrence)) (cds : List (Condition Occurrence)) → Notes note rs → gap ≡ not (last_complete (state_in s a rs cds r c))
      gap_in a rs cds nt = (answered (state_in s a rs cds r c) (entry_of offset a.left a.right rs cds) a.placed nt).judged

      missing : (a : Around s) (rs : List (Rule Occurrence)) (cds : List (Condition Occurrence)) → last_complete (state_in s a rs cds r c) ≡ false → rest t (state_in s a rs cds r c) at ≡ malformed 8 offset
      missing a rs cds e = ⊎_elim tagged ended (lt_or_le at (length t))
        where
          tagged : at < length t → rest t (state_in s a rs cds r c) at ≡ malformed 8 offset
          tagged l =
              rest_missing t (state_in s a rs cds r c) at l
              (ap₂ (λ x y. x && not y) (eq-eqb (byte t at) 3 (over l)) e)

          ended : length t ≤ at → rest t (state_in s a rs cds r c) at ≡ malformed 8 offset
          ended l =
              rest_end t (state_in s a rs cds r c) at l
              ∙ ap (end_by (state_in s a rs cds r c) at) (stage_any a.header a.counts a.offsets a.named (entry_of offset a.left a.right rs cds) a.others r c a.all)
              ∙ ap (λ x. elim x [ true ↦ well_formed (state_in s a rs cds r c) | false ↦ malformed 8 offset ]) e

      pub record Ended (u : Result Items Refused) : Type 0 where
        pub read : (start p q : ℕ) → Walked s start p q note₀ from r₀ c₀ → ItemsRead s start p q u
        pub next : IfOk u (λ v. Next t from v)
        pub inside : place_of u ≤ length t

      walk_end : (x : Bool) → gap ≡ x → offset ≤ length t → Ended (end_of x offset at r c)
      walk_end false e l =
          record {
            read = λ start p q h a.
                let m = w.walked start p q h a in
                (m.0, m.1, m.3, not-false (last_complete (state_in s a m.0 m.1 r c)) (sym (gap_in a m.0 m.1 m.2) ∙ e));
            next = record { after = w.after; inside = w.inside; over = over; rules = w.rules; conditions = w.conditions };
            inside = w.inside;
          }
      walk_end true e l =
          record {
            read = λ start p q h a.
                let m = w.walked start p q h a in
                m.3 ∙ missing a m.0 m.1 (not-true (last_complete (state_in s a m.0 m.1 r c)) (sym (gap_in a m.0 m.1 m.2) ∙ e));
            next = tt;
            inside = l;
          }

      pub walk_over : (u : Result Items Refused) → u ≡ end_of gap offset at r c → offset ≤ length t → Ended u
      walk_over u q l = subst Ended (sym q) (walk_end gap refl l)

-- ---- one field more

pub walk_then :
    (t : List ℕ) (from offset width : ℕ) (inh syn : List ℕ) (r₀ c₀ : ℕ) (note₀ note note' : List ℕ) (at r c at' r' c' : ℕ)
    → Walking t from offset width inh syn r₀ c₀ note₀ note at r c → Walking t at offset width inh syn r c note note' at' r' c'
    → Walking t from offset width inh syn r₀ c₀ note₀ note' at' r' c'
walk_then t from offset width inh syn r₀ c₀ note₀ note note' at r c at' r' c' w v =
    record {
      after = omega (arith, w.after, v.after);
      inside = v.inside;
      rules = v.rules;
      conditions = v.conditions;
      walked = λ start p q h. v.walked start p q (w.walked start p q h);
    }

module _ (t : List ℕ) (done : Items) (size width : ℕ) (inh syn note note' : List ℕ) (number : ℕ)
    (inside : done.at < length t) (rules : done.rules ≤ done.at) (conditions : done.conditions ≤ done.at)
    (j : ItemTaken t done.at size done.rules done.conditions width inh syn note note' number) where
  start_here : (offset : ℕ) → Walking t done.at offset width inh syn done.rules done.conditions note note done.at done.rules done.conditions
  start_here offset = walk_start t done.at offset width inh syn done.rules done.conditions note (omega arith) rules conditions

  pub item_refused : (x : Refused) → number ≡ fault_number x.fault → x.at ≡ done.at → ItemRead t done width inh syn note note' (Err x)
  item_refused x e q =
      subst
      (λ (o : ℕ). ItemRead t done width inh syn note note' (Err (record { fault = x.fault; at = o })))
      (sym q)
      ((λ offset. walk_refused t _ offset width inh syn _ _ note note _ _ _ (start_here offset) size note' number j x.fault e), omega arith)

  module _ (fine : number ≡ 0) (end : ℕ) (ends : end ≡ done.at + 3 + size) where
    further : done.at < done.at + 3 + size
    further = omega arith

    pub item_rule : byte t done.at ≡ 4 → OneRead t done width inh syn note note' (record { at = end; rules = done.rules + 1; conditions = done.conditions })
    item_rule tag =
        rw ends
        record {
          onward = λ offset. walk_rule t _ offset width inh syn _ _ note note _ _ _ (start_here offset) size note' number j fine tag;
          further = further;
          inside = (j.whole fine).inside;
        }

    pub item_condition : (byte t done.at ≡ 4 → ⊥) → OneRead t done width inh syn note note' (record { at = end; rules = done.rules; conditions = done.conditions + 1 })
    item_condition n =
        rw ends
        record {
          onward = λ offset. walk_condition t _ offset width inh syn _ _ note note _ _ _ (start_here offset) size note' number j fine n;
          further = further;
          inside = (j.whole fine).inside;
        }
