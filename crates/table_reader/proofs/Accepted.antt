-- The tag 3 fields that are met in a table that is well formed are its productions.
use Prim.Native.Nat.{ℕ, suc, ◌+◌, ◌*◌, ◌≤◌, ◌<◌}
use native.Mathlib.Omega.{arith}
use native.Mathlib.Decide.{dec_lt}
use mathlib.Core.Path.{◌≡◌, refl, sym, ap, ap₂, ◌∙◌}
use mathlib.Core.Bool.{Bool, true, false}
use mathlib.Core.List.{List, [], ◌∷◌, ◌++◌, map, reverse, append-nil}
use borrow.Author.Tests.{lt-ltb, le-ltb}
use lib.Dec.{ltb}
use lib.ListN.{length, get_or, drop, length-append, length-drop, length-map, length-reverse, get_or-eq_default}
use lib.Seq.{drop-drop, drop-append_seam, get_or-drop}
use Rattle.meaning.specs.Table.{byte, State, Entry, no_entry, Kind, header, counts, production, rule, condition, carrier, with_rule, with_condition, on_current, rule_of, condition_of, read_field, well_formed, read_table}
use Rattle.meaning.specs.Judgement.{entry_offset}
use Rattle.meaning.specs.PublicCalls.{stretch_end}
use Rattle.theory_base.specs.Members.{map_at, map_one_more}
use Rattle.theory_table.specs.Reading.{Reads, over, more, tag_of, table_reads}
use Rattle.table_fields.specs.Field.{length_at}
use Rattle.table_reader.specs.Fields.{productions_from, nth_production, past}
use Rattle.table_reader.proofs.Walking.{past_whole, none_left, here, not_here}

-- ---- a field at an offset, by the bytes from there on

module _ (t : List ℕ) (o tag high low : ℕ) (body rest : List ℕ) (from : drop o t ≡ tag ∷ high ∷ low ∷ body ++ rest) (size : high * 256 + low ≡ length body) where
  nth_byte : (i : ℕ) → byte t (o + i) ≡ byte (tag ∷ high ∷ low ∷ body ++ rest) i
  nth_byte i = sym (get_or-drop o t i 0) ∙ ap (λ (bs : List ℕ). byte bs i) from

  tag_is : byte t o ≡ tag
  tag_is =
      let e : o ≡ o + 0 = omega arith in
      ap (byte t) e ∙ nth_byte 0

  all_bytes : o + 3 + length body + length rest ≡ length t
  all_bytes = omega (arith, length-drop o t, ap length from, length-append body rest)

  past_is : past t o ≡ o + 3 + length body
  unfolding length_at
  past_is = sym (past_whole t o (length body) (record { size_is = sym (ap₂ (λ (x y : ℕ). x * 256 + y) (nth_byte 1) (nth_byte 2) ∙ size); inside = omega (arith, all_bytes) }))

  from_next : drop (o + 3 + length body) t ≡ rest
  from_next =
      let e : o + 3 + length body ≡ o + length (tag ∷ high ∷ low ∷ body) = omega arith in
      ap (λ (i : ℕ). drop i t) e ∙ sym (drop-drop (length (tag ∷ high ∷ low ∷ body)) o t) ∙ ap (drop (length (tag ∷ high ∷ low ∷ body))) from ∙ drop-append_seam (tag ∷ high ∷ low ∷ body) rest

-- ---- the offsets of the productions read, and of those still to come

abbrev offsets : List Entry → List ℕ
offsets es = map (λ e. e.offset) (reverse es)

same_current : (g : Entry → Entry) → ((e : Entry) → (g e).offset ≡ e.offset) → (es : List Entry) (todo : List ℕ) → offsets (on_current g es) ++ todo ≡ offsets es ++ todo
same_current g h [] todo = refl
same_current g h (e ∷ es) todo = map_one_more (λ x. x.offset) (g e) es todo ∙ ap (λ (o : ℕ). offsets es ++ (o ∷ todo)) (h e) ∙ sym (map_one_more (λ x. x.offset) e es todo)

module _ (t : List ℕ) (s : State) (o : ℕ) (inside : o < length t) (body : List ℕ) where
  one_more : (k : Kind) → byte t o ≡ tag_of k → offsets (read_field s o k body).entries ++ productions_from t (past t o) ≡ offsets s.entries ++ productions_from t o
  one_more header e = ap (λ xs. offsets s.entries ++ xs) (sym (not_here t o inside (λ q. omega arith)))
  one_more counts e = ap (λ xs. offsets s.entries ++ xs) (sym (not_here t o inside (λ q. omega arith)))
  one_more production e = map_one_more (λ x. x.offset) _ s.entries (productions_from t (past t o)) ∙ ap (λ xs. offsets s.entries ++ xs) (sym (here t o inside e))
  one_more rule e = same_current (λ x. with_rule x (rule_of body)) (λ x. refl) s.entries _ ∙ ap (λ xs. offsets s.entries ++ xs) (sym (not_here t o inside (λ q. omega arith)))
  one_more condition e = same_current (λ x. with_condition x (condition_of body)) (λ x. refl) s.entries _ ∙ ap (λ xs. offsets s.entries ++ xs) (sym (not_here t o inside (λ q. omega arith)))
  one_more carrier e = ap (λ xs. offsets s.entries ++ xs) (sym (not_here t o inside (λ q. omega arith)))

still_to_come : (t : List ℕ) {s u : State} {o : ℕ} {bs : List ℕ} → Reads s o bs u → drop o t ≡ bs → offsets u.entries ≡ offsets s.entries ++ productions_from t o
still_to_come t {s} (over {o = o} f l c) d = sym (append-nil (offsets s.entries)) ∙ ap (λ xs. offsets s.entries ++ xs) (sym (none_left t o (omega (arith, length-drop o t, ap length d))))
still_to_come t {s} (more {o = o} k high low body {rest} e n p r) d =
    still_to_come t r (from_next t o (tag_of k) high low body rest d e)
    ∙ ap (λ (i : ℕ). offsets (read_field s o k body).entries ++ productions_from t i) (sym (past_is t o (tag_of k) high low body rest d e))
    ∙ one_more t s o (omega (arith, all_bytes t o (tag_of k) high low body rest d e)) body k (tag_is t o (tag_of k) high low body rest d e)

-- ---- a table that is well formed

module _ (t : List ℕ) (s : State) (p : ℕ) where
  end_by : (b : Bool) → ltb (suc p) (length s.entries) ≡ b → stretch_end t s p ≡ (elim b [ true ↦ entry_offset s (suc p) | false ↦ length t ])
  end_by b q = rw (stretch_end, q) refl

  pub last_end : length s.entries ≤ suc p → stretch_end t s p ≡ length t
  last_end l = end_by false (le-ltb (suc p) (length s.entries) l)

module _ (t : List ℕ) (s : State) (e : read_table t ≡ well_formed s) where
  productions_read : productions_from t 0 ≡ offsets s.entries
  productions_read = sym (still_to_come t (table_reads t s e).1 refl)

  pub begins : (p : ℕ) → p < length s.entries → nth_production t 0 p ≡ entry_offset s p
  begins p l = ap (λ xs. get_or xs p (length t)) productions_read ∙ map_at (λ x. x.offset) (reverse s.entries) p no_entry (length t) (omega (arith, length-reverse s.entries))

  pub ends : (p : ℕ) → nth_production t 0 (suc p) ≡ stretch_end t s p
  ends p = go (dec_lt (suc p) (length s.entries))
    where
      go : Dec (suc p < length s.entries) → nth_production t 0 (suc p) ≡ stretch_end t s p
      go (yes l) = begins (suc p) l ∙ sym (end_by t s p true (lt-ltb (suc p) (length s.entries) l))
      go (no l) =
          ap (λ xs. get_or xs (suc p) (length t)) productions_read
          ∙ get_or-eq_default (offsets s.entries) (length t) (omega (arith, length-map (reverse s.entries) (λ x. x.offset), length-reverse s.entries))
          ∙ sym (last_end t s p (omega arith))
