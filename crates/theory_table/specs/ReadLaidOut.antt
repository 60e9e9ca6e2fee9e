-- The grammar read from a table is laid out in it, each production's stretch at its entry's offset.
use Rattle.std.specs.Prelude.{ℕ, suc, ◌+◌, ◌*◌, ◌<◌, ◌≡◌, refl, not, List, [], ◌∷◌, ◌++◌, map, reverse, length, get_or, drop, T}
use Rattle.std.proofs.Common.{arith, sym, ap, ap₂, ◌∙◌, subst, append_assoc, append-nil, length-append, length-drop, drop_at, T_not}
use Rattle.std.proofs.Math.Option.{Option, none, some}
use Rattle.std.proofs.lemmas.List.{length-reverse}
use Rattle.meaning.specs.Grammar.{Counts}
use Rattle.meaning.specs.Layout.{field, header_bytes, counts_bytes, counts_fields, carrying_fields, LaidOut, Bytes}
use Rattle.meaning.specs.Table.{State, Header, no_header, no_entry, header, counts, production, rule, condition, carrier, is_some, header_of, byte, well_formed, read_table, grammar_of}
use Rattle.theory_base.specs.Members.{one_more}
use Rattle.theory_table.specs.Reading.{Reads, over, more, Full, table_reads}
use Rattle.theory_table.specs.ReadWellFormed.{Whole, whole_table, all_counted}
use Rattle.theory_table.specs.Places.{productions_at}
use Rattle.theory_table.specs.Bodies.{field_is, low_small, rest_bytes, carrier_body, counts_body, header_body}
use Rattle.theory_table.specs.Stretches.{Stretches, entry_of, next_stretch, rest_of, stretched_productions, StretchAt, stretch_at}

-- ---- from the carriers on

record CarriersRest (s : State) (o : ℕ) (bs : List ℕ) (u : State) : Type 0 where
  todo : List ℕ
  rest : List ℕ
  others : Stretches (reverse u.entries) (o + 4 * length todo) rest
  is_rest : bs ≡ carrying_fields todo ++ rest
  header : u.header ≡ s.header
  counts : u.counts ≡ s.counts
  is_read : reverse u.carrying ≡ reverse s.carrying ++ todo

carriers_of : {s u : State} {o : ℕ} {bs : List ℕ} → Reads s o bs u → Full s → s.entries ≡ [] → Bytes bs → CarriersRest s o bs u
carriers_of (over f l t) k q h = absurd (omega (arith, l, ap length q))
carriers_of {s} (more header high low b c n p r) k q h = absurd (T_not (is_some s.header) n k.0)
carriers_of (more counts high low b c n p r) k q h = absurd (omega (arith, n.1, k.1))
carriers_of {s} {u} (more {o = o} production high low b {rest} c n p r) k q h =
    let i = next_stretch s _ u o high low b rest [] h c p refl refl refl (rest_of r (entry_of o b) [] (ap (λ z. entry_of o b ∷ z) q) n.0 (rest_bytes 3 high low b rest h)) in
    let place : o ≡ o + 4 * 0 = omega arith in
    record {
      todo = [];
      rest = 3 ∷ high ∷ low ∷ b ++ rest;
      others = subst (λ z. Stretches z (o + 4 * 0) (3 ∷ high ∷ low ∷ b ++ rest)) (sym i.is_read) (subst (λ z. Stretches i.later z (3 ∷ high ∷ low ∷ b ++ rest)) place i.others);
      is_rest = refl;
      header = i.header;
      counts = i.counts;
      is_read = ap reverse i.carrying ∙ sym (append-nil (reverse s.carrying));
    }
carriers_of (more rule high low b c n p r) k q h = absurd (omega (arith, n.1, ap length q))
carriers_of (more condition high low b c n p r) k q h = absurd (omega (arith, n.1, ap length q))
carriers_of {s} {u} (more {o = o} carrier high low b {rest} c n p r) k q h =
    let x : ℕ = byte b 0 in
    let i = carriers_of r k q (rest_bytes 6 high low b rest h) in
    let same : b ≡ x ∷ [] = carrier_body b p.limits in
    record {
      todo = x ∷ i.todo;
      rest = i.rest;
      others = subst (λ z. Stretches (reverse u.entries) z i.rest) (omega (arith, ap length same)) i.others;
      is_rest = field_is 6 high low b (x ∷ []) rest (low_small 6 high low b rest h) c same ∙ ap (λ z. field 6 (x ∷ []) ++ z) i.is_rest;
      header = i.header;
      counts = i.counts;
      is_read = i.is_read ∙ one_more x s.carrying i.todo;
    }

-- ---- from the counts on

record CountsRest (s : State) (o : ℕ) (bs : List ℕ) (u : State) : Type 0 where
  todo : List Counts
  carriers : List ℕ
  rest : List ℕ
  others : Stretches (reverse u.entries) (o + (5 * length todo + 4 * length carriers)) rest
  is_rest : bs ≡ counts_fields todo ++ (carrying_fields carriers ++ rest)
  header : u.header ≡ s.header
  is_read : reverse u.counts ≡ reverse s.counts ++ todo
  is_carrying : reverse u.carrying ≡ reverse s.carrying ++ carriers

-- no counts are left
no_counts_lem : {s u : State} {o : ℕ} {bs : List ℕ} → CarriersRest s o bs u → CountsRest s o bs u
no_counts_lem {s} {u} {o} i = record {
  todo = [];
  carriers = i.todo;
  rest = i.rest;
  others = subst (λ z. Stretches (reverse u.entries) z i.rest) (omega arith) i.others;
  is_rest = i.is_rest;
  header = i.header;
  is_read = ap reverse i.counts ∙ sym (append-nil (reverse s.counts));
  is_carrying = i.is_read;
}

counts_of : {s u : State} {o : ℕ} {bs : List ℕ} → Reads s o bs u → T (is_some s.header) → s.entries ≡ [] → Bytes bs → CountsRest s o bs u
counts_of (over f l t) k q h = absurd (omega (arith, l, ap length q))
counts_of {s} (more header high low b c n p r) k q h = absurd (T_not (is_some s.header) n k)
counts_of {s} {u} (more {o = o} counts high low b {rest} c n p r) k q h =
    let x : Counts = record { inherited = byte b 0; synthesized = byte b 1 } in
    let i = counts_of r k q (rest_bytes 2 high low b rest h) in
    let same : b ≡ counts_bytes x = counts_body b p.limits in
    record {
      todo = x ∷ i.todo;
      carriers = i.carriers;
      rest = i.rest;
      others = subst (λ z. Stretches (reverse u.entries) z i.rest) (omega (arith, ap length same)) i.others;
      is_rest = field_is 2 high low b (counts_bytes x) rest (low_small 2 high low b rest h) c same ∙ ap (λ z. field 2 (counts_bytes x) ++ z) i.is_rest;
      header = i.header;
      is_read = i.is_read ∙ one_more x s.counts i.todo;
      is_carrying = i.is_carrying;
    }
counts_of (more production high low b c n p r) k q h = no_counts_lem (carriers_of (more production high low b c n p r) n.0 q h)
counts_of (more rule high low b c n p r) k q h = absurd (omega (arith, n.1, ap length q))
counts_of (more condition high low b c n p r) k q h = absurd (omega (arith, n.1, ap length q))
counts_of (more carrier high low b c n p r) k q h = no_counts_lem (carriers_of (more carrier high low b c n p r) n.0 q h)

-- ---- the whole table

abbrev header_in : Option Header → Header
header_in o = elim o as (λ x. Header) [ none ↦ no_header | some h ↦ h ]

-- header, counts, carriers, and the stretches of the productions
record TableLayout (o : ℕ) (bs : List ℕ) (u : State) : Type 0 where
  rest : List ℕ
  stretches : Stretches (reverse u.entries) (o + (7 + 5 * length u.counts + 4 * length u.carrying)) rest
  is_table : bs ≡ field 1 (header_bytes (grammar_of u)) ++ (counts_fields (grammar_of u).counts ++ (carrying_fields (grammar_of u).carrying ++ rest))

laid_out : {s u : State} {o : ℕ} {bs : List ℕ} → Reads s o bs u → Whole u → T (not (is_some s.header)) → s.counts ≡ [] → s.carrying ≡ [] → s.entries ≡ [] → Bytes bs → TableLayout o bs u
laid_out {s} (over f l t) w k d a q h = absurd (T_not (is_some s.header) k f.0)
laid_out {s} {u} (more {o = o} header high low b {rest} c n p r) w k d a q h =
    let i = counts_of r tt q (rest_bytes 1 high low b rest h) in
    let hd : header_of u ≡ record { terminals = byte b 0; nonterminals = byte b 1; start = byte b 2; result = byte b 3 } = ap header_in i.header in
    let cs : reverse u.counts ≡ i.todo = i.is_read ∙ ap (λ z. reverse z ++ i.todo) d in
    let ws : reverse u.carrying ≡ i.carriers = i.is_carrying ∙ ap (λ z. reverse z ++ i.carriers) a in
    let four : b ≡ byte b 0 ∷ byte b 1 ∷ byte b 2 ∷ byte b 3 ∷ [] = header_body b p.limits in
    let same : header_bytes (grammar_of u) ≡ byte b 0 ∷ byte b 1 ∷ byte b 2 ∷ byte b 3 ∷ [] = ap₂ (λ (x : Header) (y : ℕ). x.terminals ∷ y ∷ x.start ∷ x.result ∷ []) hd (all_counted u w ∙ ap (λ x. x.nonterminals) hd) in
    record {
      rest = i.rest;
      stretches = subst (λ z. Stretches (reverse u.entries) z i.rest) (omega (arith, ap length four, ap length cs, length-reverse u.counts, ap length ws, length-reverse u.carrying)) i.others;
      is_table = field_is 1 high low b (header_bytes (grammar_of u)) rest (low_small 1 high low b rest h) c (four ∙ sym same) ∙ ap (λ z. field 1 (header_bytes (grammar_of u)) ++ z) (i.is_rest ∙ ap₂ (λ y z. counts_fields y ++ (carrying_fields z ++ i.rest)) (sym cs) (sym ws));
    }
laid_out {s} (more counts high low b c n p r) w k d a q h = absurd (T_not (is_some s.header) k n.0)
laid_out {s} (more production high low b c n p r) w k d a q h = absurd (T_not (is_some s.header) k n.0.0)
laid_out {s} (more rule high low b c n p r) w k d a q h = absurd (T_not (is_some s.header) k n.0.0)
laid_out {s} (more condition high low b c n p r) w k d a q h = absurd (T_not (is_some s.header) k n.0.0)
laid_out {s} (more carrier high low b c n p r) w k d a q h = absurd (T_not (is_some s.header) k n.0.0)

counts_length : (cs : List Counts) → length (counts_fields cs) ≡ 5 * length cs
counts_length [] = refl
counts_length (c ∷ cs) = let z = counts_length cs in omega arith

carrying_length : (ws : List ℕ) → length (carrying_fields ws) ≡ 4 * length ws
carrying_length [] = refl
carrying_length (t ∷ ws) = let z = carrying_length ws in omega arith

module _ (bs : List ℕ) (s : State) (h : Bytes bs) (e : read_table bs ≡ well_formed s) where
  table_layout : TableLayout 0 bs s
  table_layout = laid_out (table_reads bs s e).1 (whole_table bs s e) tt refl refl refl h

  pub read_laid_out : LaidOut (grammar_of s) bs
  read_laid_out = record { rest = table_layout.rest; productions = stretched_productions table_layout.stretches; is_table = table_layout.is_table }

  abbrev head : List ℕ
  head = field 1 (header_bytes (grammar_of s))

  abbrev counted : List ℕ
  counted = counts_fields (grammar_of s).counts

  abbrev carried : List ℕ
  carried = carrying_fields (grammar_of s).carrying

  abbrev front : List ℕ
  front = head ++ (counted ++ carried)

  front_length : length front ≡ productions_at s
  front_length = omega (arith, length-append head (counted ++ carried), length-append counted carried, counts_length (grammar_of s).counts, length-reverse s.counts, carrying_length (grammar_of s).carrying, length-reverse s.carrying)

  front_rest : bs ≡ front ++ table_layout.rest
  front_rest = table_layout.is_table ∙ (ap (λ z. head ++ z) (sym (append_assoc counted carried table_layout.rest)) ∙ sym (append_assoc head (counted ++ carried) table_layout.rest))

  behind_front : drop (productions_at s) bs ≡ table_layout.rest
  behind_front = ap (drop (productions_at s)) front_rest ∙ drop_at front table_layout.rest (productions_at s) front_length

  -- the productions' stretches follow the header, the counts and the carriers
  pub read_stretches : Stretches (reverse s.entries) (productions_at s) (drop (productions_at s) bs)
  read_stretches =
      let l = table_layout in
      subst (Stretches (reverse s.entries) (productions_at s)) (sym behind_front) (subst (λ z. Stretches (reverse s.entries) z l.rest) (omega arith) l.stretches)

  pub read_front : bs ≡ field 1 (header_bytes (grammar_of s)) ++ (counts_fields (grammar_of s).counts ++ (carrying_fields (grammar_of s).carrying ++ drop (productions_at s) bs))
  read_front = subst (λ z. bs ≡ field 1 (header_bytes (grammar_of s)) ++ (counts_fields (grammar_of s).counts ++ (carrying_fields (grammar_of s).carrying ++ z))) (sym behind_front) table_layout.is_table

  pub read_length : productions_at s + length (drop (productions_at s) bs) ≡ length bs
  read_length = omega (arith, length-drop (productions_at s) bs, front_length, ap length front_rest, length-append front table_layout.rest)

  -- the stretch of each production: its own bytes, up to the next one's offset or the table's end
  pub read_stretch : (p : ℕ) → p < length s.entries → StretchAt bs (get_or (reverse s.entries) p no_entry) (get_or (map (λ d. d.offset) (reverse s.entries)) (suc p) (length bs))
  read_stretch p l = stretch_at read_stretches bs refl read_length p (omega (arith, length-reverse s.entries))
