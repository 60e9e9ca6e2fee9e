-- Reading from an offset on, one field at a time.
use Prim.Native.Nat.{ℕ, suc, ◌+◌, ◌-◌, ◌*◌, ◌≤◌, ◌<◌}
use mathlib.Core.Path.{◌≡◌, refl, sym, ◌∙◌, ap, ap₂}
use mathlib.Core.Bool.{Bool, true, false, ◌&&◌, not, true≢false, and-false}
use mathlib.Core.List.{List}
use native.Mathlib.Omega.{arith}
use lib.Dec.{eqb, leb}
use lib.ListN.{length, get_or, take, drop, length-drop, drop_of_length-le}
use lib.Seq.{drop-cons, get_or-drop, get_or-take, drop-drop, length-take-le}
use borrow.Author.Tests.{le-leb, lt-leb, leb-true, eqb-true, eq-eqb, ne_eqb}
use Rattle.meaning.specs.Limits.{table_limit}
use Rattle.meaning.specs.Table.{byte, State, Field, Read, malformed, read_all, read_table, at_end, last_complete, current, judge_field, read_field, kind_of, nothing_read}
use Rattle.theory_table.specs.Reading.{read_enough}
use Rattle.table_fields.specs.Field.{length_at, body_at, Whole, Short, rest, judged}
use Rattle.table_fields.proofs.Cases.{nonzero}

abbrev size_in_value : List ℕ → ℕ
size_in_value bs = byte bs 0 * 256 + byte bs 1

abbrev whole_in : List ℕ → Bool
whole_in bs = leb 2 (length bs) && leb (size_in_value bs) (length bs - 2)

abbrev pub field_of : ℕ → ℕ → List ℕ → Field
field_of o x b = record { offset = o; tag = x; body = b }

unfoldable stepped : Bool → Bool → ℕ → ℕ → ℕ → Read → Read
stepped missing whole first number o after = elim missing [ true ↦ malformed 8 first | false ↦ elim whole [ false ↦ malformed 2 o | true ↦ elim (eqb number 0) [ false ↦ malformed number o | true ↦ after ] ] ]

module _ (s : State) (o x : ℕ) (bs : List ℕ) where
  abbrev next_state : State
  next_state = read_field s o (kind_of x) (take (size_in_value bs) (drop 2 bs))

pub rest_table : (t : List ℕ) → length t ≤ table_limit → read_table t ≡ rest t nothing_read 0
unfolding rest
rest_table t h = rw (le-leb (length t) table_limit h, read_table) (ap (λ (n : ℕ). read_all (suc n) nothing_read 0 t) {x = length t} {y = length t - 0} (omega arith))

pub table_long : (t : List ℕ) → table_limit < length t → read_table t ≡ malformed 1 0
table_long t h = rw (lt-leb (length t) table_limit h, read_table) refl

pub rest_end : (t : List ℕ) (s : State) (at : ℕ) → length t ≤ at → rest t s at ≡ at_end s at
unfolding rest
rest_end t s at h = ap (read_all (suc (length t - at)) s at) (drop_of_length-le t h)

stepped_field : (a b : Bool) (first number o : ℕ) (after : Read) → a ≡ false → b ≡ true → stepped a b first number o after ≡ judged number o after
unfolding stepped judged
stepped_field false true first number o after p q = refl
stepped_field false false first number o after p q = absurd (true≢false (sym q))
stepped_field true b first number o after p q = absurd (true≢false p)

stepped_short : (a b : Bool) (first number o : ℕ) (after : Read) → a ≡ false → b ≡ false → stepped a b first number o after ≡ malformed 2 o
unfolding stepped
stepped_short false false first number o after p q = refl
stepped_short false true first number o after p q = absurd (true≢false q)
stepped_short true b first number o after p q = absurd (true≢false p)

stepped_missing : (a b : Bool) (first number o : ℕ) (after : Read) → a ≡ true → stepped a b first number o after ≡ malformed 8 first
unfolding stepped
stepped_missing true b first number o after p = refl
stepped_missing false b first number o after p = absurd (true≢false (sym p))

-- the field at an offset inside the table
module _ (t : List ℕ) (s : State) (at : ℕ) (inside : at < length t) where
  abbrev tail : List ℕ
  tail = drop (suc at) t

  size_in : size_in_value tail ≡ length_at t at
  unfolding length_at
  size_in =
      ap₂
      (λ (x y : ℕ). x * 256 + y)
      (get_or-drop (suc at) t 0 0 ∙ ap (λ (i : ℕ). get_or t i 0) (omega arith))
      (get_or-drop (suc at) t 1 0 ∙ ap (λ (i : ℕ). get_or t i 0) (omega arith))

  body_in_lem : drop 2 tail ≡ drop (at + 3) t
  body_in_lem = drop-drop 2 (suc at) t ∙ ap (λ (i : ℕ). drop i t) {x = suc at + 2} {y = at + 3} (omega arith)

  next_in_lem : drop (2 + size_in_value tail) tail ≡ drop (at + 3 + length_at t at) t
  next_in_lem = drop-drop (2 + size_in_value tail) (suc at) t ∙ ap (λ (i : ℕ). drop i t) {x = suc at + (2 + size_in_value tail)} {y = at + 3 + length_at t at} (omega (arith, size_in))

  abbrev number : ℕ
  number = judge_field s (field_of at (byte t at) (take (size_in_value tail) (drop 2 tail)))

  abbrev after : Read
  after = read_all (length t - at) (next_state s at (byte t at) tail) (at + 3 + size_in_value tail) (drop (2 + size_in_value tail) tail)

  first_step : rest t s at ≡ stepped (eqb (byte t at) 3 && not (last_complete s)) (whole_in tail) (current s).offset number at after
  unfolding rest stepped
  first_step = ap (read_all (suc (length t - at)) s at) (drop-cons t at 0 inside)

  -- no rule is missing here
  abbrev pub Calm : Type 0
  Calm = (eqb (byte t at) 3 && not (last_complete s)) ≡ false

  pub rest_missing : (eqb (byte t at) 3 && not (last_complete s)) ≡ true → rest t s at ≡ malformed 8 (current s).offset
  rest_missing p = first_step ∙ stepped_missing _ _ _ _ _ _ p

  length_tail : length tail ≡ length t - suc at
  length_tail = length-drop (suc at) t

  not_whole : Short t at → whole_in tail ≡ false
  not_whole h = go (leb 2 (length tail)) (leb (size_in_value tail) (length tail - 2)) refl refl
    where
      go : (a b : Bool) → leb 2 (length tail) ≡ a → leb (size_in_value tail) (length tail - 2) ≡ b → a && b ≡ false
      go true true p q = absurd (omega (arith, leb-true 2 (length tail) p, leb-true (size_in_value tail) (length tail - 2) q, size_in, length_tail))
      go true false p q = refl
      go false b p q = refl

  module _ (size : ℕ) (w : Whole t at size) where
    is_whole : whole_in tail ≡ true
    is_whole =
        ap₂
        (λ (a b : Bool). a && b)
        (le-leb 2 (length tail) (omega (arith, w.inside, length_tail)))
        (le-leb (size_in_value tail) (length tail - 2) (omega (arith, w.inside, w.size_is, size_in, length_tail)))

    same_body : take (size_in_value tail) (drop 2 tail) ≡ body_at t at size
    same_body = ap₂ take (size_in ∙ sym w.size_is) body_in_lem

    same_after : after ≡ rest t (read_field s at (kind_of (byte t at)) (body_at t at size)) (at + 3 + size)
    unfolding rest
    same_after =
        ap₂ (λ b i. read_all (length t - at) (read_field s at (kind_of (byte t at)) b) i (drop (2 + size_in_value tail) tail)) same_body (omega (arith, size_in, w.size_is))
        ∙ ap (λ l. read_all (length t - at) (read_field s at (kind_of (byte t at)) (body_at t at size)) (at + 3 + size) l) (next_in_lem ∙ ap (λ i. drop (at + 3 + i) t) (sym w.size_is))
        ∙ read_enough (length t - at) (suc (length t - (at + 3 + size))) _ (at + 3 + size) (drop (at + 3 + size) t) (omega (arith, w.inside, length-drop (at + 3 + size) t)) (omega (arith, w.inside, length-drop (at + 3 + size) t))

  pub rest_short : Calm → Short t at → rest t s at ≡ malformed 2 at
  rest_short p q = first_step ∙ stepped_short _ _ _ _ _ _ p (not_whole q)

  pub rest_field :
      (size : ℕ) → Whole t at size → Calm
      → rest t s at ≡ judged (judge_field s (field_of at (byte t at) (body_at t at size))) at (rest t (read_field s at (kind_of (byte t at)) (body_at t at size)) (at + 3 + size))
  rest_field size w p =
      first_step ∙ stepped_field _ _ _ _ _ _ p (is_whole size w)
      ∙ ap₂ (λ b r. judged (judge_field s (field_of at (byte t at) b)) at r) (same_body size w) (same_after size w)

-- ---- the same as one equation for each way a field can go

judged_by_lem : (x : Bool) (n o : ℕ) (a b : Read) → eqb n 0 ≡ x → (n ≡ 0 → a ≡ b) → judged n o a ≡ judged n o b
unfolding judged
judged_by_lem true n o a b e h = ap (λ r. judged n o r) (h (eqb-true n 0 e))
judged_by_lem false n o a b e h =
    ap (λ x. elim x [ false ↦ malformed n o | true ↦ a ]) e ∙ sym (ap (λ x. elim x [ false ↦ malformed n o | true ↦ b ]) e)

pub judged_same : (n o : ℕ) (a b : Read) → (n ≡ 0 → a ≡ b) → judged n o a ≡ judged n o b
judged_same n o a b h = judged_by_lem (eqb n 0) n o a b refl h

pub judged_fine : (n o : ℕ) (a : Read) → n ≡ 0 → judged n o a ≡ a
unfolding judged
judged_fine n o a e = ap (λ x. elim x [ false ↦ malformed n o | true ↦ a ]) (eq-eqb n 0 e)

pub judged_refused : (n o : ℕ) (a : Read) → (n ≡ 0 → ⊥) → judged n o a ≡ malformed n o
unfolding judged
judged_refused n o a h = ap (λ x. elim x [ false ↦ malformed n o | true ↦ a ]) (ne_eqb n 0 h)

pub calm_complete : (s : State) (tag : ℕ) → last_complete s ≡ true → (eqb tag 3 && not (last_complete s)) ≡ false
calm_complete s tag e = ap (λ x. eqb tag 3 && not x) e ∙ and-false (eqb tag 3)

pub calm_other : (s : State) (tag : ℕ) → (tag ≡ 3 → ⊥) → (eqb tag 3 && not (last_complete s)) ≡ false
calm_other s tag n = ap (λ x. x && not (last_complete s)) (ne_eqb tag 3 n)

module _ (t : List ℕ) (s : State) (at : ℕ) (inside : at < length t) (calm : (eqb (byte t at) 3 && not (last_complete s)) ≡ false) (after : Read) where
  pub step_short : Short t at → rest t s at ≡ judged 2 at after
  step_short h = rest_short t s at inside calm h ∙ sym (judged_refused 2 at after (nonzero 1))

  pub step_field :
      (size : ℕ) → Whole t at size → (number : ℕ) → judge_field s (field_of at (byte t at) (body_at t at size)) ≡ number
      → (number ≡ 0 → rest t (read_field s at (kind_of (byte t at)) (body_at t at size)) (at + 3 + size) ≡ after)
      → rest t s at ≡ judged number at after
  step_field size w number e h =
      rest_field t s at inside size w calm
      ∙ ap (λ n. judged n at (rest t (read_field s at (kind_of (byte t at)) (body_at t at size)) (at + 3 + size))) e
      ∙ judged_same number at _ after h

-- the body of a field that is whole
module _ (t : List ℕ) (at size : ℕ) where
  pub body_length : at + 3 + size ≤ length t → length (body_at t at size) ≡ size
  body_length h = length-take-le size (drop (at + 3) t) (omega (arith, length-drop (at + 3) t))

  pub body_byte : (i : ℕ) → i < size → byte (body_at t at size) i ≡ byte t (at + 3 + i)
  body_byte i h = get_or-take size (drop (at + 3) t) i 0 h ∙ get_or-drop (at + 3) t i 0
