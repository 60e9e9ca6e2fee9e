-- The field of a production in each way it can go, and the counts at its positions.
use Prim.Native.Nat.{ℕ, zero, suc, ◌+◌, ◌-◌, ◌≤◌, ◌<◌}
use mathlib.Core.Path.{◌≡◌, refl, sym, ◌∙◌, ap, ap₂, subst, subst₂}
use mathlib.Core.Bool.{Bool, true, false, cond}
use mathlib.Core.List.{List, [], ◌∷◌, map, reverse, reverse_aux}
use mathlib.Core.Logic.{⊎_elim}
use native.Mathlib.Omega.{arith}
use native.Mathlib.Nat.{not-suc-le-zero}
use lib.Dec.{ltb}
use lib.ListN.{length, get_or, take, drop, length-drop, length-map, get_or-map}
use lib.Seq.{get_or-drop}
use borrow.Author.Tests.{ltb-true, ltb-false, le-ltb}
use Rattle.meaning.specs.Limits.{attributes_limit, nonterminals_limit}
use Rattle.meaning.specs.Base.{count_from}
use Rattle.meaning.specs.Sets.{has}
use Rattle.token_set.specs.SetBits.{set_of}
use Rattle.meaning.specs.Grammar.{Counts, no_counts, Symbol, terminal, nonterminal, counts_in, nonterminal_base}
use Rattle.meaning.specs.Table.{byte, Header, Entry, read_field, kind_of, judge_field, symbol_of}
use Rattle.table_fields.specs.Demand.{if_below}
use Rattle.table_fields.specs.Field.{Whole, Short, rest, body_at}
use Rattle.table_fields.specs.Judge.{head_fault, production_fault, symbol_known, symbols_known}
use Rattle.table_fields.specs.Reads.{state_of, entry_of}
use Rattle.table_fields.proofs.Rest.{step_short, step_field, calm_complete, body_length, body_byte, field_of}
use Rattle.table_fields.proofs.Judged.{production_judged, first_not}
use Rattle.table_fields.proofs.Fine.{HeadFine, head_fine, head_decides, symbols_decide, ProductionFine, production_fine}
use Rattle.table_fields.proofs.Demands.{holds_met, holds_not}
use Rattle.table_fields.proofs.Walks.{all_each}
use Rattle.table_rules.specs.Rule.{Small}
use Rattle.table_rules.specs.Note.{symbol_in}
use Rattle.std.specs.Prelude.{Result, Ok, Err, IfOk}
use Rattle.table_items.specs.declared.Items.{Items}
use Rattle.table_fields.specs.declared.Refused.{Refused}
use Rattle.table_counts.specs.Counted.{SmallCounts, counts_up_to}
use Rattle.outline.specs.Outline.{Carries}
use Rattle.table.specs.Laid.{Numbered}
use Rattle.outline.specs.Counts.{count_at_value, synthesized_at, count_terminal, count_nonterminal, synthesized_terminal, synthesized_nonterminal}
use Rattle.table_rows.specs.RowWritten.{symbol_byte, Written}
use Rattle.table_items.specs.Progress.{setting_of, Around, Walked, ItemsRead, ItemsReadFrom, Next}
use Rattle.table_occurrences.specs.OccurrenceBits.{Settled, NoteOf}
use Rattle.table_occurrence_words.specs.Placed.{KnownSmall}
use Rattle.table_sound_items.specs.Sound.{done, Sounding, BodySound, BodyTaken}
use Rattle.table_sound_items.proofs.Walking.{body_taken_by}
use Rattle.table_production.specs.Productions.{width_in, body_in, left_in, right_in, ProductionKnown, ProductionJudged, HeadJudged, SmallBody, WordsPlaced, CountsAgree, BodyRead}
use Rattle.table_counts.proofs.Counting.{length_counts}
use Rattle.table_fields.proofs.Cases.{lt_or_le, nonzero}
use Rattle.theory_base.specs.Feeds.{attribute_most}
use Rattle.theory_sets.specs.Tests.{get_d_count_from}

none_of : (es : List Entry) → length es ≡ 0 → es ≡ []
none_of [] e = refl
none_of (e ∷ es) q = absurd (omega arith)

module _ (t : List ℕ) (at p terminals nonterminals : ℕ) (inside : at < length t) where
  pub production_cut : Short t at → ProductionJudged t at p terminals nonterminals 2
  production_cut s =
      record {
        read = λ h cs os ws es r c tm nt all len done. step_short t (state_of h cs os ws es r c) at inside (calm_complete (state_of h cs os ws es r c) (byte t at) done) _ s;
        known = λ z. absurd (nonzero 1 z);
      }

  module _ (size : ℕ) (w : Whole t at size) where
    abbrev b : List ℕ
    b = body_at t at size

    pub production_other : (byte t at ≡ 3 → ⊥) → (0 < p → byte t at ≡ 3) → (byte t at ≡ 6 → ⊥) → ProductionJudged t at p terminals nonterminals 3
    production_other n f m =
        record {
          read = λ h cs os ws es r c tm nt all len done.
              step_field t (state_of h cs os ws es r c) at inside (calm_complete (state_of h cs os ws es r c) (byte t at) done) _ size w 3
              (first_not h cs os ws es r c at b (byte t at) (omega (arith, all, nt)) (none_of es (⊎_elim (λ l. absurd (n (f l))) (λ l. omega arith) (lt_or_le 0 p))) n m)
              (λ e. absurd (nonzero 2 e));
          known = λ z. absurd (nonzero 2 z);
        }

    long_body : length b ≡ size
    long_body = body_length t at size w.inside

    module _ (long : length b ≡ 2 + byte b 1) where
      second : byte b 1 ≡ width_in t at
      second = body_byte t at size 1 (omega (arith, long_body)) ∙ ap (byte t) {x = at + 3 + 1} {y = at + 4} (omega arith)

      first : byte b 0 ≡ left_in t at
      first = body_byte t at size 0 (omega (arith, long_body)) ∙ ap (byte t) {x = at + 3 + 0} {y = at + 3} (omega arith)

      size_is : size ≡ 2 + width_in t at
      size_is = omega (arith, long_body, second)

      body_is : b ≡ body_in t at
      body_is = ap (body_at t at) size_is

    module _ (fine : ProductionFine b terminals nonterminals p) where
      is_known : ProductionKnown t at p terminals nonterminals
      is_known =
          record {
            long = omega (arith, w.inside, size_is fine.long);
            short = omega (arith, fine.short, second fine.long);
            few = fine.few;
            left = omega (arith, fine.left, first fine.long);
            symbols = λ k l.
                ap (λ x. symbol_known terminals nonterminals (byte x (k + 2))) (sym (body_is fine.long))
                ∙ all_each (symbol_known terminals nonterminals) b 2 (k + 2) fine.symbols (omega arith) (omega (arith, long_body, size_is fine.long));
          }

      after_same :
          (h : Header) (cs : List Counts) (os ws : List ℕ) (es : List Entry) (r c : ℕ) → byte t at ≡ 3
          → rest t (read_field (state_of h cs os ws es r c) at (kind_of (byte t at)) b) (at + 3 + size)
          ≡ rest t (state_of h cs os ws (entry_of at (left_in t at) (right_in t at) [] [] ∷ es) r c) (at + 5 + width_in t at)
      after_same h cs os ws es r c tag =
          let n : at + 3 + size ≡ at + 5 + width_in t at = omega (arith, size_is fine.long) in
          ap₂ (λ (x i : ℕ). rest t (read_field (state_of h cs os ws es r c) at (kind_of x) b) i) tag n
          ∙ ap₂ (λ x y. rest t (state_of h cs os ws (entry_of at x (map symbol_of (drop 2 y)) [] [] ∷ es) r c) (at + 5 + width_in t at)) (first fine.long) (body_is fine.long)

    fault_same : (x y z : ℕ) → x ≡ terminals → y ≡ nonterminals → z ≡ p → production_fault x y z b ≡ production_fault terminals nonterminals p b
    fault_same x y z q r s = cc

    pub production_right :
        (part : List ℕ) (number : ℕ) → byte t at ≡ 3 → part ≡ b → number ≡ production_fault terminals nonterminals p part
        → ProductionJudged t at p terminals nonterminals number
    production_right part number tag is e =
        let q : number ≡ production_fault terminals nonterminals p b = e ∙ ap (production_fault terminals nonterminals p) is in
        record {
          read = λ h cs os ws es r c tm nt all len done.
              step_field t (state_of h cs os ws es r c) at inside (calm_complete (state_of h cs os ws es r c) (byte t at) done) _ size w number
              (ap (λ (x : ℕ). judge_field (state_of h cs os ws es r c) (field_of at x b)) tag
              ∙ production_judged h cs os ws es r c at b (omega (arith, all, nt)) ∙ fault_same h.terminals h.nonterminals (length es) tm nt len ∙ sym q)
              (λ z. after_same (production_fine b terminals nonterminals p (sym q ∙ z)) h cs os ws es r c tag);
          known = λ z. is_known (production_fine b terminals nonterminals p (sym q ∙ z));
        }

-- ---- the same, before the symbols are looked at

module _ (t : List ℕ) (at p nonterminals : ℕ) (inside : at < length t) where
  -- refused whatever the symbols are
  head_refused : (n : ℕ) → ((terminals : ℕ) → ProductionJudged t at p terminals nonterminals (suc n)) → HeadJudged t at p nonterminals (suc n)
  head_refused n j =
      record {
        refused = λ m. j;
        unknown = λ z. absurd (nonzero n z);
        fine = λ z. absurd (nonzero n z);
        long = λ z. absurd (nonzero n z);
        short = λ z. absurd (nonzero n z);
        few = λ z. absurd (nonzero n z);
        left = λ z. absurd (nonzero n z);
      }

  pub head_cut : Short t at → HeadJudged t at p nonterminals 2
  head_cut s = head_refused 1 (λ terminals. production_cut t at p terminals nonterminals inside s)

  module _ (size : ℕ) (w : Whole t at size) where
    pub head_other : (byte t at ≡ 3 → ⊥) → (0 < p → byte t at ≡ 3) → (byte t at ≡ 6 → ⊥) → HeadJudged t at p nonterminals 3
    head_other n f m = head_refused 2 (λ terminals. production_other t at p terminals nonterminals inside size w n f m)

    pub head_right : (part : List ℕ) (number : ℕ) → byte t at ≡ 3 → part ≡ body_at t at size → number ≡ head_fault nonterminals p part → HeadJudged t at p nonterminals number
    head_right part number tag is e =
        record {
          refused = λ n terminals. production_right t at p terminals nonterminals inside size w c number tag refl (head_decides c terminals nonterminals p number q n);
          unknown = λ z terminals u.
              production_right t at p terminals nonterminals inside size w c 5 tag refl
              (holds_not (symbols_known terminals nonterminals c 2) 5 0 (symbols z terminals ∙ u) ∙ symbols_decide c terminals nonterminals p (sym q ∙ z));
          fine = λ z terminals u.
              production_right t at p terminals nonterminals inside size w c 0 tag refl
              (holds_met (symbols_known terminals nonterminals c 2) 5 0 (symbols z terminals ∙ u) refl ∙ symbols_decide c terminals nonterminals p (sym q ∙ z));
          long = λ z. omega (arith, w.inside, size_is t at p 0 nonterminals inside size w (good z).long);
          short = λ z. omega (arith, (good z).short, second t at p 0 nonterminals inside size w (good z).long);
          few = λ z. (good z).few;
          left = λ z. omega (arith, (good z).left, first t at p 0 nonterminals inside size w (good z).long);
        }
      where
        c : List ℕ
        c = body_at t at size

        q : number ≡ head_fault nonterminals p c
        q = e ∙ ap (head_fault nonterminals p) is

        good : number ≡ 0 → HeadFine c nonterminals p
        good z = head_fine c nonterminals p (sym q ∙ z)

        symbols : number ≡ 0 → (terminals : ℕ) → symbols_known terminals nonterminals c 2 ≡ symbols_known terminals nonterminals (body_in t at) 2
        symbols z terminals = ap (λ (x : List ℕ). symbols_known terminals nonterminals x 2) (body_is t at p 0 nonterminals inside size w (good z).long)

-- ---- the counts at the positions

-- the body as the code cuts it out once its width is known
pub part_in : (t : List ℕ) (at w : ℕ) → w ≡ width_in t at → take (at + 5 + w - (at + 3)) (drop (at + 3) t) ≡ body_in t at
part_in t at w e = ap (λ (n : ℕ). take n (drop (at + 3) t)) {x = at + 5 + w - (at + 3)} {y = 2 + width_in t at} (omega arith)

-- the counts of its left side
pub head_left :
    (t : List ℕ) (at : ℕ) (inherited synthesized part : List ℕ) → part ≡ body_in t at → at + 5 + width_in t at ≤ length t → count_at_value inherited (nonterminal_base + left_in t at) + count_at_value synthesized (nonterminal_base + left_in t at) ≤ attributes_limit
    → count_at_value inherited (nonterminal_base + byte part 0) + count_at_value synthesized (nonterminal_base + byte part 0) ≤ attributes_limit
head_left t at inherited synthesized part is long small =
    let same : byte part 0 ≡ left_in t at = ap (λ (x : List ℕ). byte x 0) is ∙ body_byte t at (2 + width_in t at) 0 (omega arith) ∙ ap (byte t) {x = at + 3 + 0} {y = at + 3} (omega arith) in
    rw same small

module _ {A : Type 0} (d : A) where
  reverse_past : (xs ys : List A) (m : ℕ) → get_or (reverse_aux xs ys) (length xs + m) d ≡ get_or ys m d
  reverse_past [] ys m = ap (λ (i : ℕ). get_or ys i d) {x = 0 + m} {y = m} (omega arith)
  reverse_past (x ∷ xs) ys m = ap (λ (i : ℕ). get_or (reverse_aux xs (x ∷ ys)) i d) {x = suc (length xs) + m} {y = length xs + suc m} (omega arith) ∙ reverse_past xs (x ∷ ys) (suc m)

  reverse_onto : (P : ℕ → A → Type 0) (xs ys : List A) → Numbered P xs → (m : ℕ) → m < length xs → P m (get_or (reverse_aux xs ys) m d)
  reverse_onto P [] ys e m h = absurd (not-suc-le-zero h)
  reverse_onto P (x ∷ xs) ys e m h = ⊎_elim (λ l. reverse_onto P xs (x ∷ ys) e.1 m l) (λ l. last (omega arith)) (lt_or_le m (length xs))
    where
      last : m ≡ length xs + 0 → P m (get_or (reverse_aux xs (x ∷ ys)) m d)
      last q =
          let here : length xs ≡ m = omega arith in
          subst₂ P here
          (sym (ap (λ (i : ℕ). get_or (reverse_aux xs (x ∷ ys)) i d) q ∙ reverse_past xs (x ∷ ys) 0))
          e.0

  -- what holds of each element and its number holds of the list in order
  pub numbered : (P : ℕ → A → Type 0) (xs : List A) → Numbered P xs → (m : ℕ) → m < length xs → P m (get_or (reverse xs) m d)
  numbered P xs e m h = reverse_onto P xs [] e m h

-- a terminal has at most one attribute

module _ (inh syn : List ℕ) where
  abbrev Right : ℕ → Counts → Type 0
  Right m x = x ≡ record { inherited = get_or inh m 0; synthesized = get_or syn m 0 }

  each_right : (n : ℕ) → Numbered Right (counts_up_to inh syn n)
  each_right zero = tt
  each_right (suc n) = (ap (λ (m : ℕ). record { inherited = get_or inh m 0; synthesized = get_or syn m 0 }) (sym (length_counts inh syn n)), each_right n)

  pub counts_at_lem : (n m : ℕ) → m < n → get_or (reverse (counts_up_to inh syn n)) m no_counts ≡ record { inherited = get_or inh m 0; synthesized = get_or syn m 0 }
  counts_at_lem n m h = numbered no_counts Right (counts_up_to inh syn n) (each_right n) m (omega (arith, length_counts inh syn n))

  -- a symbol's counts, by its byte, where a word holds the terminals that carry a value
  module _ (carrying : ℕ) (ws : List ℕ) (n : ℕ) where
    abbrev cs : List Counts
    cs = counts_up_to inh syn n

    pub record SymbolCounts (x : Symbol) (k : ℕ) : Type 0 where
      pub first : count_at_value inh k ≡ (counts_in (reverse cs) (reverse ws) x).inherited
      pub second : synthesized_at carrying syn k ≡ (counts_in (reverse cs) (reverse ws) x).synthesized

    of_terminal : Carries carrying (reverse ws) → (k : ℕ) → k < nonterminal_base → SymbolCounts (terminal k) k
    of_terminal held k l = record { first = sym (count_terminal inh k l); second = sym (synthesized_terminal carrying syn k l refl (held.each k)) }

    of_nonterminal : (k : ℕ) → nonterminal_base ≤ k → k - nonterminal_base < n → SymbolCounts (nonterminal (k - nonterminal_base)) k
    of_nonterminal k l h =
        record {
          first = sym (count_nonterminal inh k _ l (ap (λ x. x.inherited) (counts_at_lem n (k - nonterminal_base) h)));
          second = sym (synthesized_nonterminal carrying syn k _ l (count_nonterminal syn k _ l (ap (λ x. x.synthesized) (counts_at_lem n (k - nonterminal_base) h))));
        }

    of_symbol : Carries carrying (reverse ws) → (terminals k : ℕ) → symbol_known terminals n k ≡ true → SymbolCounts (symbol_of k) k
    unfolding symbol_known if_below
    of_symbol held terminals k e = go (ltb k nonterminal_base) refl
      where
        go : (b : Bool) → ltb k nonterminal_base ≡ b → SymbolCounts (elim b [ true ↦ terminal k | false ↦ nonterminal (k - nonterminal_base) ]) k
        go true q = of_terminal held k (ltb-true k nonterminal_base q)
        go false q =
            of_nonterminal k (ltb-false k nonterminal_base q)
            (ltb-true (k - nonterminal_base) n (sym (ap (λ (b : Bool). cond b (ltb k terminals) (ltb (k - nonterminal_base) n)) q) ∙ e))

    small_count : SmallCounts inh syn n → (k : ℕ) → (nonterminal_base ≤ k → k - nonterminal_base < n) → count_at_value inh k + synthesized_at carrying syn k ≤ attributes_limit
    small_count small k h = ⊎_elim low high (lt_or_le k nonterminal_base)
      where
        low : k < nonterminal_base → count_at_value inh k + synthesized_at carrying syn k ≤ attributes_limit
        low l = omega (arith, count_terminal inh k l, synthesized_terminal carrying syn k l refl refl, attribute_most (has (set_of carrying) k))

        high : nonterminal_base ≤ k → count_at_value inh k + synthesized_at carrying syn k ≤ attributes_limit
        high l =
            let first = count_nonterminal inh k _ l refl in
            let second = synthesized_nonterminal carrying syn k _ l (count_nonterminal syn k _ l refl) in
            omega (arith, first, second, small (k - nonterminal_base) (h l))

-- the nonterminals among known symbols
pub known_below : (terminals n k : ℕ) → symbol_known terminals n k ≡ true → nonterminal_base ≤ k → k - nonterminal_base < n
unfolding symbol_known if_below
known_below terminals n k e l = ltb-true (k - nonterminal_base) n (sym (ap (λ (b : Bool). cond b (ltb k terminals) (ltb (k - nonterminal_base) n)) (le-ltb k nonterminal_base l)) ∙ e)

module _ (terminals nonterminals carrying : ℕ) (inh syn : List ℕ) (small : SmallCounts inh syn nonterminals) where
  pub known_small : nonterminals ≤ nonterminals_limit → KnownSmall terminals nonterminals carrying inh syn
  known_small few s e = (⊎_elim (λ l. omega arith) (λ l. omega (arith, known_below terminals nonterminals s e l)) (lt_or_le s nonterminal_base), small_count inh syn carrying [] nonterminals small s (known_below terminals nonterminals s e))

  pub left_small : (left : ℕ) → left < nonterminals → count_at_value inh (nonterminal_base + left) + count_at_value syn (nonterminal_base + left) ≤ attributes_limit
  left_small left l = omega (arith, count_nonterminal inh (nonterminal_base + left) _ (omega arith) refl, count_nonterminal syn (nonterminal_base + left) _ (omega arith) refl, small (nonterminal_base + left - nonterminal_base) (omega arith))

module _ (t : List ℕ) (at p terminals nonterminals carrying : ℕ) (inh syn : List ℕ) (known : ProductionKnown t at p terminals nonterminals) where
  pub long_in : length (body_in t at) ≡ 2 + width_in t at
  long_in = body_length t at (2 + width_in t at) (omega (arith, known.long))

  pub left_byte : byte (body_in t at) 0 ≡ left_in t at
  left_byte = body_byte t at (2 + width_in t at) 0 (omega arith) ∙ ap (byte t) {x = at + 3 + 0} {y = at + 3} (omega arith)

  pub right_symbol : (k : ℕ) → symbol_in (left_in t at) (right_in t at) (suc k) ≡ symbol_of (byte (body_in t at) (k + 2))
  right_symbol k =
      get_or-map symbol_of (drop 2 (body_in t at)) k 0
      ∙ ap symbol_of (get_or-drop 2 (body_in t at) k 0 ∙ ap (byte (body_in t at)) {x = 2 + k} {y = k + 2} (omega arith))

  each_position : (ws : List ℕ) → Carries carrying (reverse ws) → (k : ℕ) → k ≤ width_in t at → SymbolCounts inh syn carrying ws nonterminals (symbol_in (left_in t at) (right_in t at) k) (symbol_byte (body_in t at) k)
  each_position ws held zero l =
      subst₂ (SymbolCounts inh syn carrying ws nonterminals)
      (ap nonterminal {x = nonterminal_base + left_in t at - nonterminal_base} {y = left_in t at} (omega arith))
      (ap (λ (x : ℕ). nonterminal_base + x) (sym left_byte))
      (of_nonterminal inh syn carrying ws nonterminals (nonterminal_base + left_in t at) (omega arith) (omega (arith, known.left)))
  each_position ws held (suc k) l =
      subst (λ x. SymbolCounts inh syn carrying ws nonterminals x (byte (body_in t at) (k + 2))) (sym (right_symbol k))
      (of_symbol inh syn carrying ws nonterminals held terminals (byte (body_in t at) (k + 2)) (known.symbols k (omega arith)))

  pub counts_agree : (ws : List ℕ) → Carries carrying (reverse ws) → CountsAgree t at carrying inh syn (counts_up_to inh syn nonterminals) ws
  counts_agree ws held = record { inherits = λ k l. (each_position ws held k l).first; synthesizes = λ k l. (each_position ws held k l).second }

  small_position : SmallCounts inh syn nonterminals → (k : ℕ) → k ≤ width_in t at → count_at_value inh (symbol_byte (body_in t at) k) + synthesized_at carrying syn (symbol_byte (body_in t at) k) ≤ attributes_limit
  small_position small zero l = small_count inh syn carrying [] nonterminals small (nonterminal_base + byte (body_in t at) 0) (λ h. omega (arith, left_byte, known.left))
  small_position small (suc k) l =
      small_count inh syn carrying [] nonterminals small (byte (body_in t at) (k + 2)) (known_below terminals nonterminals (byte (body_in t at) (k + 2)) (known.symbols k (omega arith)))

  pub small_body : SmallCounts inh syn nonterminals → SmallBody t at carrying inh syn
  small_body small = (known.short, small_position small)

-- ---- the lists of counts that the code makes of the body

module _ (t : List ℕ) (at w carrying : ℕ) (inherited synthesized inh syn part : List ℕ) (is-width : w ≡ width_in t at) (is_IsBody : part ≡ body_in t at)
    (long : at + 5 + width_in t at ≤ length t) (p : Written (count_at_value inherited) part inh) (q : Written (synthesized_at carrying synthesized) part syn) where
  body_long : length (body_in t at) ≡ 2 + width_in t at
  body_long = body_length t at (2 + width_in t at) (omega arith)

  at_place : (f : ℕ → ℕ) (places : List ℕ) → Written f part places → (k : ℕ) → k ≤ w → get_or places k 0 ≡ f (symbol_byte (body_in t at) k)
  at_place f places g k l = (subst (λ x. Written f x places) is_IsBody g).each k (omega (arith, body_long))

  pub body_small : SmallBody t at carrying inherited synthesized → Small w inh syn
  body_small small =
      (omega (arith, small.0), λ k l. omega (arith, small.1 k (omega arith), at_place (count_at_value inherited) inh p k l, at_place (synthesized_at carrying synthesized) syn q k l))

  right_long : length (right_in t at) ≡ w
  right_long = length-map (drop 2 (body_in t at)) symbol_of ∙ length-drop 2 (body_in t at) ∙ omega (arith, body_long)

  abbrev around : (h : Header) (cs : List Counts) (os ws : List ℕ) (es : List Entry) → h.nonterminals ≤ length cs → CountsAgree t at carrying inherited synthesized cs ws → Around (setting_of t at w inh syn)
  around h cs os ws es all agree =
      record {
        header = h;
        counts = cs;
        offsets = os;
        named = ws;
        left = left_in t at;
        right = right_in t at;
        others = es;
        all = all;
        placed = record {
          wide = sym right_long;
          inherits = λ k l. at_place (count_at_value inherited) inh p k l ∙ agree.inherits k (omega arith);
          synthesizes = λ k l. at_place (synthesized_at carrying synthesized) syn q k l ∙ agree.synthesizes k (omega arith);
        };
      }

  start_same : (h : Header) (cs : List Counts) (os ws : List ℕ) (es : List Entry) (r₀ c₀ : ℕ)
      → rest t (state_of h cs os ws (entry_of at (left_in t at) (right_in t at) [] [] ∷ es) r₀ c₀) (at + 5 + width_in t at)
      ≡ rest t (state_of h cs os ws (entry_of at (left_in t at) (right_in t at) [] [] ∷ es) r₀ c₀) (at + 5 + w)
  start_same h cs os ws es r₀ c₀ = ap (λ (i : ℕ). rest t (state_of h cs os ws (entry_of at (left_in t at) (right_in t at) [] [] ∷ es) r₀ c₀) (at + 5 + i)) (sym is-width)

  pub body_read : (r₀ c₀ : ℕ) (u : Result Items Refused) → ItemsRead (setting_of t at w inh syn) (at + 5 + w) r₀ c₀ u → BodyRead t at carrying inherited synthesized r₀ c₀ u
  body_read r₀ c₀ (Ok u) f = λ h cs os ws es all agree. let m = f (around h cs os ws es all agree) in (m.0, m.1, start_same h cs os ws es r₀ c₀ ∙ m.2, m.3)
  body_read r₀ c₀ (Err x) f = λ h cs os ws es all agree. start_same h cs os ws es r₀ c₀ ∙ f (around h cs os ws es all agree)

-- ---- sound rules and conditions, by lists of counts

abbrev places_of : (ℕ → ℕ) → List ℕ → List ℕ
places_of f b = map (λ k. f (symbol_byte b k)) (count_from 0 (length b))

placed_by : (f : ℕ → ℕ) (b : List ℕ) → Written f b (places_of f b)
placed_by f b = record { each = λ k l. get_d_count_from (λ j. f (symbol_byte b j)) 0 (length b) k 0 (omega arith) ∙ ap (λ (j : ℕ). f (symbol_byte b j)) {x = 0 + k} {y = k} (omega arith) }

pub sound_body :
    (t : List ℕ) (at carrying : ℕ) (inherited synthesized : List ℕ) (r₀ c₀ end r c : ℕ) → at + 5 + width_in t at ≤ length t → SmallBody t at carrying inherited synthesized
    → BodySound t at carrying inherited synthesized r₀ c₀ end r c → BodyRead t at carrying inherited synthesized r₀ c₀ (Ok (done end r c))
sound_body t at carrying inherited synthesized r₀ c₀ end r c long small b =
    let p = placed_by (count_at_value inherited) (body_in t at) in
    let q = placed_by (synthesized_at carrying synthesized) (body_in t at) in
    body_read t at (width_in t at) carrying inherited synthesized _ _ (body_in t at) refl refl long p q r₀ c₀ (Ok (done end r c))
    (b.read _ _ p q (body_small t at (width_in t at) carrying inherited synthesized _ _ (body_in t at) refl refl long p q small))

-- what is taken by a walk, by the words at the positions
pub body_walked :
    (t : List ℕ) (at w carrying : ℕ) (inherited synthesized inputs words₀ words : List ℕ) (r₀ c₀ end r c : ℕ) → w ≡ width_in t at → at + 5 + width_in t at ≤ length t
    → WordsPlaced t at carrying inherited synthesized inputs words₀ → Sounding t (at + 5 + w) r₀ c₀ inputs words₀ words end r c → BodyTaken t at carrying inherited synthesized r₀ c₀ words end r c
body_walked t at w carrying inherited synthesized inputs words₀ words r₀ c₀ end r c is long placed s =
    let turned : 2 + width_in t at ≡ width_in t at + 2 = omega arith in
    body_taken_by t at carrying inherited synthesized r₀ c₀ inputs words₀ words end r c (width_in t at) refl (body_in t at) refl (body_length t at (2 + width_in t at) (omega arith) ∙ turned) placed.0 placed.1
    (subst (λ (x : ℕ). Sounding t (at + 5 + x) r₀ c₀ inputs words₀ words end r c) is s)

-- the same of fields taken up to one of them: what is read from there on, by a note that the words tell
pub taken_body :
    (t : List ℕ) (at w carrying : ℕ) (inherited synthesized inh syn part : List ℕ) → w ≡ width_in t at → part ≡ body_in t at → at + 5 + width_in t at ≤ length t
    → Written (count_at_value inherited) part inh → Written (synthesized_at carrying synthesized) part syn → SmallBody t at carrying inherited synthesized
    → (words made : List ℕ) (end r c : ℕ) (u : Result Items Refused) → NoteOf w inh syn words made → ItemsReadFrom (setting_of t at w inh syn) made end r c u
    → (r₀ c₀ : ℕ) → BodyTaken t at carrying inherited synthesized r₀ c₀ words end r c → BodyRead t at carrying inherited synthesized r₀ c₀ u
taken_body t at w carrying inherited synthesized inh syn part is-width is_IsBody long p q small words made end r c u of f r₀ c₀ b =
    let p' = subst (λ x. Written (count_at_value inherited) x inh) is_IsBody p in
    let q' = subst (λ x. Written (synthesized_at carrying synthesized) x syn) is_IsBody q in
    let few = subst (λ (x : ℕ). Small x inh syn) is-width (body_small t at w carrying inherited synthesized inh syn part is-width is_IsBody long p q small) in
    let words-by = subst (λ (x : ℕ). Settled x inh syn b.note words) (sym is-width) (b.settled inh syn p' q' few) in
    let walked = subst (λ (x : ℕ). Walked (setting_of t at x inh syn) (at + 5 + x) r₀ c₀ b.note end r c) (sym is-width) (b.walked inh syn p' q' few) in
    body_read t at w carrying inherited synthesized inh syn part is-width is_IsBody long p q r₀ c₀ u
    (f (at + 5 + w) r₀ c₀ (λ a. let x = walked a in (x.0, x.1, of b.note x.0 words-by x.2, x.3)))

next_before : (t : List ℕ) (a b : ℕ) (u : Items) → a ≤ b → Next t b u → Next t a u
next_before t a b u l n = record { after = omega (arith, n.after); inside = n.inside; over = n.over; rules = n.rules; conditions = n.conditions }

pub next_sooner : (t : List ℕ) (a b : ℕ) (u : Result Items Refused) → a ≤ b → IfOk u (λ v. Next t b v) → IfOk u (λ v. Next t a v)
next_sooner t a b (Ok u) l n = next_before t a b u l n
next_sooner t a b (Err x) l n = tt
