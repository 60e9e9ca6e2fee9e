-- Where in the bytes of a table that is read the header, the counts, the tokens that carry a value and the productions stand.
use Rattle.std.specs.Prelude.{ℕ, suc, ◌+◌, ◌*◌, ◌≤◌, ◌<◌, ◌≡◌, refl, ◌⊎◌, Bool, true, false, not, ◌&&◌, cond, get_or, length, drop, T, eqb, leb}
use Rattle.std.proofs.Common.{arith, sym, ap, ◌∙◌, subst, inl, inr, length-append, length-drop, get_or-append-add, get_or-drop, eqb→eq, T_not}
use Rattle.std.proofs.Math.Decide.{dec_lt}
use mathlib.Core.List.{List, [], ◌∷◌, ◌++◌, map, reverse, reverse-cons}
use Rattle.std.proofs.lemmas.List.{length-map, length-reverse, get_or_at}
use Rattle.std.proofs.Math.ListN.{get_or-append}
use Rattle.meaning.specs.Limits.{attributes_limit, nonterminals_limit, terminals_limit}
use Rattle.meaning.specs.Base.{In}
use Rattle.meaning.specs.Grammar.{Symbol, terminal, Counts, no_counts, whole_production, production_at, whole}
use Rattle.meaning.specs.Table.{State, Header, Entry, no_entry, Kind, header, counts, production, rule, condition, carrier, is_some, header_of, byte, within, symbol_of, read_field, on_current, with_rule, with_condition, rule_of, condition_of, well_formed, read_table, nothing_read, production_of, grammar_of}
use Rattle.meaning.specs.Judgement.{entry_offset, counts_offset}
use Rattle.theory_base.specs.Members.{both, in_reverse, get_d_in, map_at}
use Rattle.theory_table.specs.Reading.{Reads, over, more, Faultless, tag_of, Next, table_reads}
use Rattle.theory_table.specs.Invariant.{Inv, nothing_yet, keeps, mk}
use Rattle.theory_table.specs.Bodies.{production_length}
use Rattle.theory_table.specs.ReadWellFormed.{Whole, whole_table}

-- ---- what stands where

pub record HeaderAt (all : List ℕ) (h : Header) : Type 0 where
  pub terminals : byte all 3 ≡ h.terminals
  pub nonterminals : byte all 4 ≡ h.nonterminals
  pub start : byte all 5 ≡ h.start
  pub result : byte all 6 ≡ h.result

pub record CountsAt (all : List ℕ) (o : ℕ) (c : Counts) : Type 0 where
  pub tag : byte all o ≡ 2
  pub inherited : byte all (o + 3) ≡ c.inherited
  pub synthesized : byte all (o + 4) ≡ c.synthesized

pub record CarrierAt (all : List ℕ) (o t : ℕ) : Type 0 where
  pub tag : byte all o ≡ 6
  pub kind : byte all (o + 3) ≡ t

-- where the tag 6 fields, and behind them the productions, begin
abbrev pub carriers_at : State → ℕ
carriers_at s = 7 + 5 * length s.counts

abbrev pub productions_at : State → ℕ
productions_at s = carriers_at s + 4 * length s.carrying

pub record EntryAt (all : List ℕ) (e : Entry) : Type 0 where
  pub tag : byte all e.offset ≡ 3
  pub left : byte all (e.offset + 3) ≡ e.left
  pub size : byte all (e.offset + 4) ≡ length e.right
  pub symbols : (k : ℕ) → k < length e.right → symbol_of (byte all (e.offset + 5 + k)) ≡ get_or e.right k (terminal 0)
  pub inside : e.offset + 5 + length e.right ≤ length all

-- each entry, the latest first, ends before the one after it begins
abbrev Falling : ℕ → List Entry → Type 0
Falling o [] = Unit {0}
Falling o (e ∷ es) = (e.offset + 5 + length e.right ≤ o) × Falling e.offset es

-- the rest of the table from an offset on
record From (all : List ℕ) (o : ℕ) (bs : List ℕ) : Type 0 where
  same : (i : ℕ) → byte all (o + i) ≡ byte bs i
  long : o + length bs ≡ length all

record Placed (all : List ℕ) (s : State) (o : ℕ) : Type 0 where
  early : T (not (is_some s.header)) → (o ≡ 0) × (length s.counts ≡ 0) × (length s.carrying ≡ 0) × (length s.entries ≡ 0)
  header_at : T (is_some s.header) → HeaderAt all (header_of s)
  next : T (is_some s.header) → length s.entries ≡ 0 → o ≡ productions_at s
  many : length s.counts_offsets ≡ length s.counts
  offsets : (n : ℕ) → n < length s.counts → get_or (reverse s.counts_offsets) n 0 ≡ 7 + 5 * n
  counts_at : (n : ℕ) → n < length s.counts → CountsAt all (7 + 5 * n) (get_or (reverse s.counts) n no_counts)
  carrying_at : (n : ℕ) → n < length s.carrying → CarrierAt all (carriers_at s + 4 * n) (get_or (reverse s.carrying) n 0)
  entries_at : (e : Entry) → In e s.entries → EntryAt all e
  first : 0 < length s.entries → entry_offset s 0 ≡ productions_at s
  falling : Falling o s.entries

-- ---- the bytes of one field

module _ (all : List ℕ) (o t high low : ℕ) (body rest : List ℕ) (f : From all o (t ∷ high ∷ low ∷ body ++ rest)) where
  tag_at : byte all o ≡ t
  tag_at = ap (byte all) (omega arith) ∙ f.same 0

  body_at : (i : ℕ) → i < length body → byte all (o + (3 + i)) ≡ byte body i
  body_at i l =
      let e : 3 + i ≡ suc (suc (suc i)) = omega arith in
      f.same (3 + i) ∙ ap (byte (t ∷ high ∷ low ∷ body ++ rest)) e ∙ get_or-append body rest 0 i l

  onward : From all (o + 3 + length body) rest
  onward = record {
    same = λ i.
        let e : o + 3 + length body + i ≡ o + (length (t ∷ high ∷ low ∷ body) + i) = omega arith in
        ap (byte all) e ∙ f.same (length (t ∷ high ∷ low ∷ body) + i) ∙ get_or-append-add (t ∷ high ∷ low ∷ body) rest i 0;
    long = omega (arith, f.long, length-append body rest);
  }

-- one more at the end of a list turned round
module _ {A : Type 0} (P : ℕ → A → Type 0) (x : A) (xs : List A) (d : A) where
  at_last : ((n : ℕ) → n < length xs → P n (get_or (reverse xs) n d)) → P (length xs) x → (n : ℕ) → n < suc (length xs) → P n (get_or (reverse (x ∷ xs)) n d)
  at_last h p n l = subst (λ z. P n (get_or z n d)) (sym (reverse-cons x xs)) (go (dec_lt n (length xs)))
    where
      go : Dec (n < length xs) → P n (get_or (reverse xs ++ (x ∷ [])) n d)
      go (yes m) = subst (P n) (sym (get_or-append (reverse xs) (x ∷ []) d n (omega (arith, length-reverse xs)))) (h n m)
      go (no m) =
          let e : length xs ≡ n = omega arith in
          subst (P n) (sym (get_or_at (reverse xs) x [] d n (length-reverse xs ∙ e))) (subst (λ k. P k x) e p)

falling_later : (es : List Entry) (o o' : ℕ) → o ≤ o' → Falling o es → Falling o' es
falling_later [] o o' l f = tt
falling_later (e ∷ es) o o' l f = (omega (arith, f.0), f.1)

module _ (all : List ℕ) (s : State) (o high low : ℕ) (b rest : List ℕ) (v : Placed all s o) where
  place_header : From all o (1 ∷ high ∷ low ∷ b ++ rest) → T (not (is_some s.header)) → Faultless s header b → Placed all (read_field s o header b) (o + 3 + length b)
  place_header f n p =
      let l : length b ≡ 4 = eqb→eq (length b) 4 (both (eqb (length b) 4) (within 1 (byte b 0) terminals_limit) (both (eqb (length b) 4 && within 1 (byte b 0) terminals_limit) (within 1 (byte b 1) nonterminals_limit) p.limits).0).0 in
      let z = v.early n in
      let at : (i : ℕ) → i < 4 → byte all (3 + i) ≡ byte b i = λ i m. ap (byte all) (omega (arith, z.0)) ∙ body_at all o 1 high low b rest f i (omega arith) in
      record {
        early = λ t. absurd t;
        header_at = λ t. record { terminals = at 0 (omega arith); nonterminals = at 1 (omega arith); start = at 2 (omega arith); result = at 3 (omega arith) };
        next = λ t e. omega (arith, z.0, z.1, z.2);
        many = v.many;
        offsets = v.offsets;
        counts_at = v.counts_at;
        carrying_at = v.carrying_at;
        entries_at = v.entries_at;
        first = v.first;
        falling = falling_later s.entries o (o + 3 + length b) (omega arith) v.falling;
      }

  place_counts : From all o (2 ∷ high ∷ low ∷ b ++ rest) → T (is_some s.header) → length s.entries ≡ 0 → length s.carrying ≡ 0 → Faultless s counts b → Placed all (read_field s o counts b) (o + 3 + length b)
  place_counts f t none bare p =
      let c : Counts = record { inherited = byte b 0; synthesized = byte b 1 } in
      let l : length b ≡ 2 = eqb→eq (length b) 2 (both (eqb (length b) 2) (leb (byte b 0 + byte b 1) attributes_limit) p.limits).0 in
      let here : o ≡ 7 + 5 * length s.counts = omega (arith, v.next t none, bare) in
      let new : CountsAt all o c = record { tag = tag_at all o 2 high low b rest f; inherited = body_at all o 2 high low b rest f 0 (omega arith); synthesized = body_at all o 2 high low b rest f 1 (omega arith) } in
      record {
        early = λ n. absurd (T_not (is_some s.header) n t);
        header_at = v.header_at;
        next = λ t e. omega arith;
        many = ap suc v.many;
        offsets = λ n m. at_last (λ n x. x ≡ 7 + 5 * n) o s.counts_offsets 0 (λ n m. v.offsets n (omega (arith, v.many))) (omega (arith, here, v.many)) n (omega (arith, v.many));
        counts_at = at_last (λ n c. CountsAt all (7 + 5 * n) c) c s.counts no_counts v.counts_at (subst (λ z. CountsAt all z c) here new);
        carrying_at = λ n m. absurd (omega (arith, bare));
        entries_at = v.entries_at;
        first = λ m. absurd (omega (arith, none));
        falling = falling_later s.entries o (o + 3 + length b) (omega arith) v.falling;
      }

  place_carrier : From all o (6 ∷ high ∷ low ∷ b ++ rest) → T (is_some s.header) → length s.entries ≡ 0 → Faultless s carrier b → Placed all (read_field s o carrier b) (o + 3 + length b)
  place_carrier f t none p =
      let l : length b ≡ 1 = eqb→eq (length b) 1 p.limits in
      let new : CarrierAt all o (byte b 0) = record { tag = tag_at all o 6 high low b rest f; kind = body_at all o 6 high low b rest f 0 (omega arith) } in
      record {
        early = λ n. absurd (T_not (is_some s.header) n t);
        header_at = v.header_at;
        next = λ t e. omega (arith, v.next t none, l);
        many = v.many;
        offsets = v.offsets;
        counts_at = v.counts_at;
        carrying_at = at_last (λ n t. CarrierAt all (carriers_at s + 4 * n) t) (byte b 0) s.carrying 0 v.carrying_at (subst (λ z. CarrierAt all z (byte b 0)) (v.next t none) new);
        entries_at = v.entries_at;
        first = λ m. absurd (omega (arith, none));
        falling = falling_later s.entries o (o + 3 + length b) (omega arith) v.falling;
      }

  place_production_lem : From all o (3 ∷ high ∷ low ∷ b ++ rest) → T (is_some s.header) → Faultless s production b → Placed all (read_field s o production b) (o + 3 + length b)
  place_production_lem f t p =
      record {
        early = λ n. absurd (T_not (is_some s.header) n t);
        header_at = v.header_at;
        next = λ t e. absurd (omega arith);
        many = v.many;
        offsets = v.offsets;
        counts_at = v.counts_at;
        carrying_at = v.carrying_at;
        entries_at = λ e i. entry e i;
        first = λ m. at_last (λ n e. n ≡ 0 → e.offset ≡ productions_at s) new s.entries no_entry (λ n k q. ap (λ i. entry_offset s i) q ∙ v.first (omega arith)) (λ q. v.next t q) 0 m refl;
        falling = (omega (arith, size, n), v.falling);
      }
    where
      new : Entry
      new = record { offset = o; left = byte b 0; right = map symbol_of (drop 2 b); rules = []; conditions = [] }

      n : length b ≡ 2 + byte b 1
      n = production_length s b p

      size : length (map symbol_of (drop 2 b)) ≡ byte b 1
      size = omega (arith, length-map (drop 2 b) symbol_of, length-drop 2 b, n)

      symbol : (k : ℕ) → k < length (map symbol_of (drop 2 b)) → symbol_of (byte all (o + 5 + k)) ≡ get_or (map symbol_of (drop 2 b)) k (terminal 0)
      symbol k l =
          let e : o + 5 + k ≡ o + (3 + (2 + k)) = omega arith in
          let h : byte all (o + 5 + k) ≡ get_or (drop 2 b) k 0 = ap (byte all) e ∙ body_at all o 3 high low b rest f (2 + k) (omega (arith, size, n)) ∙ sym (get_or-drop 2 b k 0) in
          ap symbol_of h ∙ sym (map_at symbol_of (drop 2 b) k 0 (terminal 0) (omega (arith, length-map (drop 2 b) symbol_of)))

      here : EntryAt all new
      here = record {
        tag = tag_at all o 3 high low b rest f;
        left = body_at all o 3 high low b rest f 0 (omega (arith, n));
        size = body_at all o 3 high low b rest f 1 (omega (arith, n)) ∙ sym size;
        symbols = symbol;
        inside = omega (arith, size, n, f.long, length-append b rest);
      }

      entry : (e : Entry) → (e ≡ new) ⊎ In e s.entries → EntryAt all e
      entry e (inl q) = rw q here
      entry e (inr i) = v.entries_at e i

-- ---- a rule or a condition changes no place

abbrev SamePlace : Entry → Entry → Type 0
SamePlace e e' = (e.offset ≡ e'.offset) × (e.left ≡ e'.left) × (e.right ≡ e'.right)

entry_over : (all : List ℕ) (e e' : Entry) → SamePlace e e' → EntryAt all e → EntryAt all e'
entry_over all e e' q k =
    subst (λ (z : ℕ × ℕ × List Symbol). EntryAt all (record { offset = z.0; left = z.1; right = z.2; rules = e'.rules; conditions = e'.conditions }))
    (λ i. (q.0 i, q.1 i, q.2 i)) (record { tag = k.tag; left = k.left; size = k.size; symbols = k.symbols; inside = k.inside })

module _ (h : Entry → Entry) (same : (e : Entry) → SamePlace e (h e)) where
  length_kept : (es : List Entry) → length (on_current h es) ≡ length es
  length_kept [] = refl
  length_kept (e ∷ es) = refl

  entries_kept : (all : List ℕ) (es : List Entry) → ((e : Entry) → In e es → EntryAt all e) → (e : Entry) → In e (on_current h es) → EntryAt all e
  entries_kept all [] k e i = absurd i
  entries_kept all (a ∷ es) k e (inl q) = subst (EntryAt all) (sym q) (entry_over all a (h a) (same a) (k a (inl refl)))
  entries_kept all (a ∷ es) k e (inr i) = k e (inr i)

  falling_kept : (o : ℕ) (es : List Entry) → Falling o es → Falling o (on_current h es)
  falling_kept o [] f = tt
  falling_kept o (e ∷ es) f = (omega (arith, f.0, (same e).0, ap length (same e).2), subst (λ z. Falling z es) (same e).0 f.1)

  first_kept : (es : List Entry) → (get_or (reverse (on_current h es)) 0 no_entry).offset ≡ (get_or (reverse es) 0 no_entry).offset
  first_kept [] = refl
  first_kept (e ∷ es) =
      let front : (d : Entry) → get_or (reverse (d ∷ es)) 0 no_entry ≡ get_or (reverse es ++ (d ∷ [])) 0 no_entry = λ d. ap (λ z. get_or z 0 no_entry) (reverse-cons d es) in
      ap (λ d. d.offset) (front (h e)) ∙ go (reverse es) ∙ sym (ap (λ d. d.offset) (front e))
    where
      go : (xs : List Entry) → (get_or (xs ++ (h e ∷ [])) 0 no_entry).offset ≡ (get_or (xs ++ (e ∷ [])) 0 no_entry).offset
      go [] = sym (same e).0
      go (x ∷ xs) = refl

  place_current : (all : List ℕ) (s : State) (o o' rn cn : ℕ) → Placed all s o → T (is_some s.header) → 0 < length s.entries → o ≤ o' → Placed all (mk s.header s.counts s.counts_offsets s.carrying (on_current h s.entries) rn cn) o'
  place_current all s o o' rn cn v t m l = record {
    early = λ n. absurd (T_not (is_some s.header) n t);
    header_at = v.header_at;
    next = λ t e. absurd (omega (arith, length_kept s.entries));
    many = v.many;
    offsets = v.offsets;
    counts_at = v.counts_at;
    carrying_at = v.carrying_at;
    entries_at = entries_kept all s.entries v.entries_at;
    first = λ k. first_kept s.entries ∙ v.first m;
    falling = falling_later (on_current h s.entries) o o' l (falling_kept o s.entries v.falling);
  }

-- ---- the whole table

place : (all : List ℕ) (s : State) (o : ℕ) (k : Kind) (high low : ℕ) (b rest : List ℕ) → Inv s → Placed all s o → From all o (tag_of k ∷ high ∷ low ∷ b ++ rest) → Next s k → Faultless s k b → Placed all (read_field s o k b) (o + 3 + length b)
place all s o header high low b rest i v f n p = place_header all s o high low b rest v f n p
place all s o counts high low b rest i v f n p = place_counts all s o high low b rest v f n.0 (none (dec_lt 0 (length s.entries))) (bare (dec_lt 0 (length s.carrying))) p
  where
    none : Dec (0 < length s.entries) → length s.entries ≡ 0
    none (yes l) = absurd (omega (arith, (i.filled l).1, n.1))
    none (no l) = omega arith

    bare : Dec (0 < length s.carrying) → length s.carrying ≡ 0
    bare (yes l) = absurd (omega (arith, (i.tagged l).1, n.1))
    bare (no l) = omega arith
place all s o production high low b rest i v f n p = place_production_lem all s o high low b rest v f n.0.0 p
place all s o rule high low b rest i v f n p = place_current (λ e. with_rule e (rule_of b)) (λ e. (refl, refl, refl)) all s o (o + 3 + length b) (suc s.rules) s.conditions v n.0.0 n.1 (omega arith)
place all s o condition high low b rest i v f n p = place_current (λ e. with_condition e (condition_of b)) (λ e. (refl, refl, refl)) all s o (o + 3 + length b) s.rules (suc s.conditions) v n.0.0 n.1 (omega arith)
place all s o carrier high low b rest i v f n p = place_carrier all s o high low b rest v f n.0.0 n.1 p

places : (all : List ℕ) {s u : State} {o : ℕ} {bs : List ℕ} → Reads s o bs u → Inv s → Placed all s o → From all o bs → Placed all u (length all)
places all (over {s} {o} f l t) i v a = subst (Placed all s) (let e = a.long in omega arith) v
places all {s} (more {o = o} k high low b {rest} c n p r) i v a = places all r (keeps s o k b i n p) (place all s o k high low b rest i v a n p) (onward all o (tag_of k) high low b rest a)

placed : (bs : List ℕ) (s : State) → read_table bs ≡ well_formed s → Placed bs s (length bs)
placed bs s e = places bs (table_reads bs s e).1 nothing_yet start (record { same = λ i. ap (byte bs) (omega arith); long = omega arith })
  where
    start : Placed bs nothing_read 0
    start = record {
      early = λ t. (refl, refl, refl, refl);
      header_at = λ t. absurd t;
      next = λ t. absurd t;
      many = refl;
      offsets = λ n l. absurd (omega arith);
      counts_at = λ n l. absurd (omega arith);
      carrying_at = λ n l. absurd (omega arith);
      entries_at = λ e i. absurd i;
      first = λ l. absurd (omega arith);
      falling = tt;
    }

-- ---- by number

falling_below : (es : List Entry) (o : ℕ) → Falling o es → (e : Entry) → In e es → e.offset + 5 + length e.right ≤ o
falling_below [] o f e i = absurd i
falling_below (a ∷ es) o f e (inl q) = rw q f.0
falling_below (a ∷ es) o f e (inr i) = omega (arith, falling_below es a.offset f.1 e i, f.0)

abbrev Before : Entry → Entry → Type 0
Before d e = d.offset + 5 + length d.right ≤ e.offset

rising : (es : List Entry) (o : ℕ) → Falling o es → (p q : ℕ) → p < q → q < length es → Before (get_or (reverse es) p no_entry) (get_or (reverse es) q no_entry)
rising [] o f p q l m = absurd (omega arith)
rising (e ∷ es) o f p q l m =
    at_last (λ n d. (p : ℕ) → p < n → Before (get_or (reverse (e ∷ es)) p no_entry) d) e es no_entry
    (λ n k p j. earlier p (omega arith) (λ d. Before d (get_or (reverse es) n no_entry)) (rising es e.offset f.1 p n j k))
    (λ p j. earlier p j (λ d. Before d e) (falling_below es e.offset f.1 (get_or (reverse es) p no_entry) (within p j)))
    q m p l
  where
    within : (p : ℕ) → p < length es → In (get_or (reverse es) p no_entry) es
    within p j = in_reverse (get_or (reverse es) p no_entry) es (get_d_in (reverse es) p no_entry (omega (arith, length-reverse es)))

    earlier : (p : ℕ) → p < length es → (P : Entry → Type 0) → P (get_or (reverse es) p no_entry) → P (get_or (reverse (e ∷ es)) p no_entry)
    earlier p l P h = subst (λ z. P (get_or z p no_entry)) (sym (reverse-cons e es)) (subst P (sym (get_or-append (reverse es) (e ∷ []) no_entry p (omega (arith, length-reverse es)))) h)

-- what stands where in a table that is read, by the numbers of its nonterminals and productions
pub record Places (bs : List ℕ) (s : State) : Type 0 where
  pub header_at : HeaderAt bs (header_of s)
  pub counts_offsets : (n : ℕ) → n < length s.counts → counts_offset s n ≡ 7 + 5 * n
  pub counts_at : (n : ℕ) → n < length s.counts → CountsAt bs (7 + 5 * n) (get_or (reverse s.counts) n no_counts)
  pub carrying_at : (n : ℕ) → n < length s.carrying → CarrierAt bs (carriers_at s + 4 * n) (get_or (reverse s.carrying) n 0)
  -- behind the last of them the first production begins
  pub first : entry_offset s 0 ≡ productions_at s
  pub entries_at : (p : ℕ) → p < length s.entries → EntryAt bs (get_or (reverse s.entries) p no_entry)
  pub rising : (p q : ℕ) → p < q → q < length s.entries → entry_offset s p + 5 + length (get_or (reverse s.entries) p no_entry).right ≤ entry_offset s q
  pub below : (p : ℕ) → p < length s.entries → entry_offset s p < length bs
  -- an entry is the production of its number
  pub is_production : (p : ℕ) → p < length s.entries → production_at (grammar_of s) p ≡ production_of (get_or (reverse s.entries) p no_entry)

pub read_places : (bs : List ℕ) (s : State) → read_table bs ≡ well_formed s → Places bs s
read_places bs s e = record {
  header_at = v.header_at w.full.0;
  counts_offsets = v.offsets;
  counts_at = v.counts_at;
  carrying_at = v.carrying_at;
  first = v.first w.some_entry;
  entries_at = at;
  rising = rising s.entries (length bs) v.falling;
  below = λ p l. let h = (at p l).inside in omega arith;
  is_production = λ p l. number p l;
}
  where
    v : Placed bs s (length bs)
    v = placed bs s e

    w : Whole s
    w = whole_table bs s e

    at : (p : ℕ) → p < length s.entries → EntryAt bs (get_or (reverse s.entries) p no_entry)
    at p l = v.entries_at (get_or (reverse s.entries) p no_entry) (in_reverse (get_or (reverse s.entries) p no_entry) s.entries (get_d_in (reverse s.entries) p no_entry (omega (arith, length-reverse s.entries))))

    number : (p : ℕ) → p < length s.entries → production_at (grammar_of s) p ≡ production_of (get_or (reverse s.entries) p no_entry)
    number p l = go (eqb p whole) (λ t. let q = eqb→eq p whole t in omega (arith, w.inv.few_entries))
      where
        go : (b : Bool) → (T b → ⊥) → cond b (whole_production (grammar_of s)) (get_or (map production_of (reverse s.entries)) p (whole_production (grammar_of s))) ≡ production_of (get_or (reverse s.entries) p no_entry)
        go true k = absurd (k tt)
        go false k = map_at production_of (reverse s.entries) p no_entry (whole_production (grammar_of s)) (omega (arith, length-reverse s.entries))
