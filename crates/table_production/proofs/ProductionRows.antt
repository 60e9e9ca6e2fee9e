-- Productions, one after the other, and their rows.
use Prim.Native.Nat.{ℕ, ◌+◌, ◌≤◌, ◌<◌}
use mathlib.Core.Path.{◌≡◌, refl, sym, ◌∙◌, ap, subst}
use mathlib.Core.Bool.{true, false}
use mathlib.Core.List.{List, [], ◌∷◌, reverse}
use native.Mathlib.Omega.{arith}
use lib.ListN.{length, get_or, drop, set, length-set, length-map, length-drop}
use lib.Seq.{get_or-set_same, get_or-set_other}
use Rattle.meaning.specs.Grammar.{Counts, Symbol, terminal}
use Rattle.meaning.specs.Table.{byte, State, Entry, well_formed, malformed, stage, at_any, at_first, last_complete, symbol_of, current}
use Rattle.outline.specs.Images.{row_start}
use Rattle.table_fields.specs.Field.{rest}
use Rattle.table_fields.specs.Reads.{state_of, entry_of}
use Rattle.table_fields.proofs.Rest.{rest_end, judged_fine, judged_refused, body_byte}
use Rattle.table_fields.proofs.Judged.{stage_later}
use Rattle.std.specs.Prelude.{Ok, Err}
use Rattle.refusals.specs.declared.TableFault.{TableFault}
use Rattle.refusals.specs.declared.TableRefusal.{TableRefusal}
use Rattle.refusals.specs.Numbers.{fault_number}
use Rattle.table_rules.proofs.Faults.{fault_some}
use Rattle.table_items.specs.declared.Items.{Items}
use Rattle.table_fields.specs.declared.Refused.{Refused}
use Rattle.table_counts.specs.Counted.{header_in, counts_up_to, offsets_up_to}
use Rattle.outline.specs.Outline.{Carries}
use Rattle.table.specs.Laid.{named, RowOf, Laid}
use Rattle.table_carriers.specs.Named.{NoCarrier}
use Rattle.table_rows.specs.RowWritten.{Copied}
use Rattle.table_items.specs.Progress.{Next, Over}
use Rattle.table_production.specs.Productions.{width_in, body_in, left_in, right_in, ProductionKnown, ProductionJudged, BodyRead, ProductionRead}
use Rattle.table_counts.proofs.Steps.{end_by}
use Rattle.table_counts.proofs.Counting.{length_counts}
use Rattle.table_items.proofs.Walking.{stage_any}
use Rattle.table_production.proofs.Producing.{counts_agree, right_symbol, left_byte, long_in}

-- ---- rows that stay

module _ (rows rows' offsets : List ℕ) (n o : ℕ) (same : (i : ℕ) → i < row_start n → get_or rows' i 0 ≡ get_or rows i 0) where
  row_kept : (p : ℕ) (e : Entry) → p < n → RowOf rows offsets p e → RowOf rows' (set offsets n o) p e
  row_kept p e l r =
      record {
        left = same (row_start p) (omega arith) ∙ r.left;
        size = same (row_start p + 1) (omega arith) ∙ r.size;
        symbols = λ k h. ap symbol_of (same (row_start p + 2 + k) (omega (arith, r.short))) ∙ r.symbols k h;
        short = r.short;
        offset = get_or-set_other offsets n p o 0 (λ q. omega arith) ∙ r.offset;
      }

  pub laid_kept : (es : List Entry) → length es ≤ n → Laid rows offsets es → Laid rows' (set offsets n o) es
  laid_kept [] l d = tt
  laid_kept (e ∷ es) l d = (row_kept (length es) e (omega arith) d.0, laid_kept es (omega arith) d.1)

-- ---- one production

module _ (t : List ℕ) (at p terminals nonterminals carrying : ℕ) (inherited synthesized rows₀ offsets₀ : List ℕ) (r₀ c₀ : ℕ) (number : ℕ) (j : ProductionJudged t at p terminals nonterminals number) (long-offsets : length offsets₀ ≡ 128) where
  abbrev cs : List Counts
  cs = counts_up_to inherited synthesized nonterminals

  pub production_refused :
      (rows : List ℕ) (f : TableFault) → number ≡ fault_number f → at ≤ length t → length rows ≡ 2048
      → ProductionRead t at p terminals nonterminals carrying inherited synthesized rows₀ offsets₀ r₀ c₀ rows offsets₀ (Err (record { fault = f; offset = at }))
  production_refused rows f e inside long =
      record {
        read = λ h os ws es tm nt len done laid held.
            j.read h cs os ws es r₀ c₀ tm nt (omega (arith, length_counts inherited synthesized nonterminals)) len done ∙ judged_refused number at _ (λ z. fault_some f (sym e ∙ z)) ∙ ap (λ (x : ℕ). malformed x at) e;
        next = tt;
        few = tt;
        inside = inside;
        kept = (long, long-offsets);
      }

  module _ (fine : number ≡ 0) (part rows : List ℕ) (is-part : part ≡ body_in t at) (copied : Copied rows₀ p part rows (length part)) where
    known : ProductionKnown t at p terminals nonterminals
    known = j.known fine

    body_long : length (body_in t at) ≡ 2 + width_in t at
    body_long = long_in t at p terminals nonterminals carrying inherited synthesized known

    row_byte : (k : ℕ) → k < 2 + width_in t at → get_or rows (row_start p + k) 0 ≡ byte (body_in t at) k
    row_byte k l = copied.row k (omega (arith, ap length is-part, body_long)) ∙ ap (λ (x : List ℕ). byte x k) is-part

    right_long : length (right_in t at) ≡ width_in t at
    right_long = length-map (drop 2 (body_in t at)) symbol_of ∙ length-drop 2 (body_in t at) ∙ omega (arith, body_long)

    width_byte : byte (body_in t at) 1 ≡ width_in t at
    width_byte = body_byte t at (2 + width_in t at) 1 (omega arith) ∙ ap (byte t) {x = at + 3 + 1} {y = at + 4} (omega arith)

    row_is : (e : Entry) → e.offset ≡ at → e.left ≡ left_in t at → e.right ≡ right_in t at → RowOf rows (set offsets₀ p at) p e
    row_is e o l x =
        record {
          left = ap (λ (i : ℕ). get_or rows i 0) {x = row_start p} {y = row_start p + 0} (omega arith) ∙ row_byte 0 (omega arith) ∙ left_byte t at p terminals nonterminals carrying inherited synthesized known ∙ sym l;
          size = row_byte 1 (omega arith) ∙ width_byte ∙ sym (ap length x ∙ right_long);
          symbols = λ k h.
              ap symbol_of (ap (λ (i : ℕ). get_or rows i 0) {x = row_start p + 2 + k} {y = row_start p + (k + 2)} (omega arith) ∙ row_byte (k + 2) (omega (arith, ap length x, right_long)))
              ∙ sym (right_symbol t at p terminals nonterminals carrying inherited synthesized known k) ∙ sym (ap (λ (xs : List Symbol). get_or xs k (terminal 0)) x);
          short = omega (arith, ap length x, right_long, known.short);
          offset = get_or-set_same offsets₀ p at 0 (omega (arith, known.few)) ∙ sym o;
        }

    pub production_read :
        (v : Items) → BodyRead t at carrying inherited synthesized r₀ c₀ (Ok v) → Next t (at + 5) v → v.at ≤ length t
        → ProductionRead t at p terminals nonterminals carrying inherited synthesized rows₀ offsets₀ r₀ c₀ rows (set offsets₀ p at) (Ok v)
    production_read v body next inside =
        record {
          read = λ h os ws es tm nt len done laid held.
              let m = body h cs os ws es (omega (arith, nt, length_counts inherited synthesized nonterminals)) (counts_agree t at p terminals nonterminals carrying inherited synthesized known ws held) in (
                entry_of at (left_in t at) (right_in t at) m.0 m.1,
                j.read h cs os ws es r₀ c₀ tm nt (omega (arith, length_counts inherited synthesized nonterminals)) len done ∙ judged_fine number at _ fine ∙ m.2,
                m.3,
                (
                  subst (λ (n : ℕ). RowOf rows (set offsets₀ p at) n (entry_of at (left_in t at) (right_in t at) m.0 m.1)) (sym len) (row_is (entry_of at (left_in t at) (right_in t at) m.0 m.1) refl refl refl),
                  laid_kept rows₀ rows offsets₀ p at copied.before es (omega (arith, len)) laid,
                ),
              );
          next = next;
          few = known.few;
          inside = inside;
          kept = (copied.kept, length-set offsets₀ p at ∙ long-offsets);
        }

    pub production_stopped :
        (x : Refused) → BodyRead t at carrying inherited synthesized r₀ c₀ (Err x) → x.at ≤ length t
        → ProductionRead t at p terminals nonterminals carrying inherited synthesized rows₀ offsets₀ r₀ c₀ rows (set offsets₀ p at) (Err (record { fault = x.fault; offset = x.at }))
    production_stopped x body inside =
        record {
          read = λ h os ws es tm nt len done laid held.
              j.read h cs os ws es r₀ c₀ tm nt (omega (arith, length_counts inherited synthesized nonterminals)) len done ∙ judged_fine number at _ fine
              ∙ body h cs os ws es (omega (arith, nt, length_counts inherited synthesized nonterminals)) (counts_agree t at p terminals nonterminals carrying inherited synthesized known ws held);
          next = tt;
          few = tt;
          inside = inside;
          kept = (copied.kept, length-set offsets₀ p at ∙ long-offsets);
        }

-- ---- all of them

-- the entries of p productions read, where tag 6 fields named these terminals
pub record Entries (t : List ℕ) (from n : ℕ) (inherited synthesized ws rows offsets : List ℕ) (p at r c : ℕ) : Type 0 where
  pub entries : List Entry
  pub count : length entries ≡ p
  pub done : last_complete (state_of (header_in t) (counts_up_to inherited synthesized n) (offsets_up_to n) ws entries r c) ≡ true
  pub laid : Laid rows offsets entries
  pub read : rest t (named t inherited synthesized n ws) from ≡ rest t (state_of (header_in t) (counts_up_to inherited synthesized n) (offsets_up_to n) ws entries r c) at

pub record Reached (t : List ℕ) (from n carrying : ℕ) (inherited synthesized rows offsets : List ℕ) (p at r c : ℕ) : Type 0 where
  pub inside : at ≤ length t
  pub over : 0 < p → Over t at
  pub other : NoCarrier t at
  pub rules : r ≤ at
  pub conditions : c ≤ at
  pub few : p ≤ 128
  pub kept : length rows ≡ 2048
  pub kept_offsets : length offsets ≡ 128
  pub found : (ws : List ℕ) → Carries carrying (reverse ws) → Entries t from n inherited synthesized ws rows offsets p at r c

module _ (t : List ℕ) (from n carrying : ℕ) (inherited synthesized : List ℕ) where
  pub reached_start :
      (rows offsets : List ℕ) → from ≤ length t → NoCarrier t from → length rows ≡ 2048 → length offsets ≡ 128
      → Reached t from n carrying inherited synthesized rows offsets 0 from 0 0
  reached_start rows offsets l o k m =
      record {
        inside = l;
        over = λ h. absurd (omega arith);
        other = o;
        rules = omega arith;
        conditions = omega arith;
        few = omega arith;
        kept = k;
        kept_offsets = m;
        found = λ ws held. record { entries = []; count = refl; done = refl; laid = tt; read = refl };
      }

  module _ (rows offsets : List ℕ) (p at r c : ℕ) (w : Reached t from n carrying inherited synthesized rows offsets p at r c) where
    module _ (is-n : n ≡ byte t 4) (terminals : ℕ) (tm : terminals ≡ byte t 3) (rows' offsets' : List ℕ) where
      pub reached_refused :
          (x : TableRefusal) → ProductionRead t at p terminals n carrying inherited synthesized rows offsets r c rows' offsets' (Err x) → (ws : List ℕ) → Carries carrying (reverse ws)
          → rest t (named t inherited synthesized n ws) from ≡ malformed (fault_number x.fault) x.offset
      reached_refused x m ws held =
          let f = w.found ws held in
          f.read ∙ m.read (header_in t) (offsets_up_to n) ws f.entries (sym tm) (sym is-n) f.count f.done f.laid held

      module _ (u : Items) (m : ProductionRead t at p terminals n carrying inherited synthesized rows offsets r c rows' offsets' (Ok u)) where
        entries_more : (ws : List ℕ) → Carries carrying (reverse ws) → Entries t from n inherited synthesized ws rows' offsets' (p + 1) u.at u.rules u.conditions
        entries_more ws held =
            let f = w.found ws held in
            let q = m.read (header_in t) (offsets_up_to n) ws f.entries (sym tm) (sym is-n) f.count f.done f.laid held in
            record {
              entries = q.0 ∷ f.entries;
              count = omega (arith, f.count);
              done = q.2;
              laid = q.3;
              read = f.read ∙ q.1;
            }

        pub reached_more : Reached t from n carrying inherited synthesized rows' offsets' (p + 1) u.at u.rules u.conditions
        reached_more =
            let k = m.next in
            record {
              inside = k.inside;
              over = λ h. k.over;
              other = λ l e. let three = k.over l in absurd (omega arith);
              rules = k.rules;
              conditions = k.conditions;
              few = omega (arith, m.few);
              kept = m.kept.0;
              kept_offsets = m.kept.1;
              found = entries_more;
            }

    module _ (is-n : n ≡ byte t 4) (ended : length t ≤ at) (ws : List ℕ) (f : Entries t from n inherited synthesized ws rows offsets p at r c) where
      abbrev state : State
      state = state_of (header_in t) (counts_up_to inherited synthesized n) (offsets_up_to n) ws f.entries r c

      all_counted : byte t 4 ≤ length (counts_up_to inherited synthesized n)
      all_counted = omega (arith, is-n, length_counts inherited synthesized n)

      pub reached_none : p ≡ 0 → rest t (named t inherited synthesized n ws) from ≡ malformed 3 at
      reached_none z = f.read ∙ rest_end t state at ended ∙ ap (end_by state at) (by f.entries f.count)
        where
          by : (es : List Entry) → length es ≡ p → stage (state_of (header_in t) (counts_up_to inherited synthesized n) (offsets_up_to n) ws es r c) ≡ at_first
          by [] q = stage_later (header_in t) (counts_up_to inherited synthesized n) (offsets_up_to n) ws [] r c all_counted
          by (e ∷ es) q = absurd (omega arith)

      pub reached_end : (p ≡ 0 → ⊥) → rest t (named t inherited synthesized n ws) from ≡ well_formed state
      reached_end z = f.read ∙ rest_end t state at ended ∙ ap (end_by state at) any_stage ∙ ap (λ x. elim x [ true ↦ well_formed state | false ↦ malformed 8 (current state).offset ]) f.done
        where
          by : (es : List Entry) → length es ≡ p → stage (state_of (header_in t) (counts_up_to inherited synthesized n) (offsets_up_to n) ws es r c) ≡ at_any
          by [] q = absurd (z (sym q))
          by (e ∷ es) q = stage_any (header_in t) (counts_up_to inherited synthesized n) (offsets_up_to n) ws e es r c all_counted

          any_stage : stage state ≡ at_any
          any_stage = by f.entries f.count
