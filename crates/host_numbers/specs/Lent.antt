-- A run's record and answer as the numbers that a host lends.
use Rattle.std.specs.Prelude.{ℕ, ◌≡◌, refl, Bool, true, false, List, [], ◌∷◌, get_or, eqb, ℤ, pos}
use Rattle.std.proofs.Common.{sym, ap, ap₂, ◌∙◌, eq-eqb, ne_eqb}
use Rattle.meaning.specs.Calls.{Status, running, waiting, closed, Kind, outer, inner, Record, Answer, more, value, refused, table_refused}
use Rattle.meaning.specs.PublicCalls.{Effect}
use Rattle.meaning_inner.specs.Inner.{register_base, place_base, with_status, with_kind}
use Rattle.meaning.specs.PublicCalls.{stacks_of}
use Rattle.engine.specs.declared.Called.{Called}
use Rattle.records.specs.Records.{answer_is}
use Rattle.engine.specs.Records.{record_is, effect_is}

-- ---- a record as eight numbers: how it stands, tokens read, moves, height of the registers, height of the places, its kind, and the two heights where an inner run begins

-- 0 for closed, 2 for waiting, every other number for open
abbrev status_by : Bool → Bool → Status
status_by true w = closed
status_by false true = waiting
status_by false false = running

abbrev pub status_from : ℕ → Status
status_from n = status_by (eqb n 0) (eqb n 2)

pub status_closed : {n : ℕ} → n ≡ 0 → closed ≡ status_from n
status_closed {n} e = ap (λ b. status_by b (eqb n 2)) (sym (eq-eqb n 0 e))

pub status_waiting : {n : ℕ} → (n ≡ 0 → ⊥) → n ≡ 2 → waiting ≡ status_from n
status_waiting {n} z e = ap₂ status_by (sym (ne_eqb n 0 z)) (sym (eq-eqb n 2 e))

pub status_open : {n : ℕ} → (n ≡ 0 → ⊥) → (n ≡ 2 → ⊥) → running ≡ status_from n
status_open {n} z e = ap₂ status_by (sym (ne_eqb n 0 z)) (sym (ne_eqb n 2 e))

-- 1 for inner, every other number for outer, with beginnings that are not looked at
abbrev kind_by : Bool → ℕ → ℕ → Kind
kind_by true r p = inner r p
kind_by false r p = outer

abbrev pub kind_from : ℕ → ℕ → ℕ → Kind
kind_from n r p = kind_by (eqb n 1) r p

pub kind_inner : {n r p : ℕ} → n ≡ 1 → inner r p ≡ kind_from n r p
kind_inner {n} {r} {p} e = ap (λ b. kind_by b r p) (sym (eq-eqb n 1 e))

pub kind_outer : (n r p : ℕ) → (n ≡ 1 → ⊥) → outer ≡ kind_from n r p
kind_outer n r p e = ap (λ b. kind_by b r p) (sym (ne_eqb n 1 e))

abbrev pub brought_in : List ℕ → Record
brought_in ns = record { status = status_from (get_or ns 0 0); kind = kind_from (get_or ns 5 0) (get_or ns 6 0) (get_or ns 7 0); tokens = get_or ns 1 0; moves = get_or ns 2 0; register_height = get_or ns 3 0; place_height = get_or ns 4 0 }

pub brought_by : (ns : List ℕ) {counted placed r : Record} → counted ≡ record { status = running; kind = outer; tokens = get_or ns 1 0; moves = get_or ns 2 0; register_height = get_or ns 3 0; place_height = get_or ns 4 0 }
    → placed ≡ with_kind (kind_from (get_or ns 5 0) (get_or ns 6 0) (get_or ns 7 0)) counted → r ≡ with_status (status_from (get_or ns 0 0)) placed → r ≡ brought_in ns
brought_by ns e f g = g ∙ ap (with_status (status_from (get_or ns 0 0))) (f ∙ ap (with_kind (kind_from (get_or ns 5 0) (get_or ns 6 0) (get_or ns 7 0))) e)

abbrev pub status_number : Status → ℕ
status_number closed = 0
status_number running = 1
status_number waiting = 2

abbrev pub kind_number : Kind → ℕ
kind_number outer = 0
kind_number (inner r p) = 1

-- an outer record's beginnings are 0
abbrev pub numbers_of : Record → List ℕ
numbers_of r = status_number r.status ∷ r.tokens ∷ r.moves ∷ r.register_height ∷ r.place_height ∷ kind_number r.kind ∷ register_base r.kind ∷ place_base r.kind ∷ []

pub numbers_by : (r : Record) {a b c d : ℕ} → a ≡ status_number r.status → b ≡ kind_number r.kind → c ≡ register_base r.kind → d ≡ place_base r.kind → a ∷ r.tokens ∷ r.moves ∷ r.register_height ∷ r.place_height ∷ b ∷ c ∷ d ∷ [] ≡ numbers_of r
numbers_by r e f g h = λ j. e j ∷ r.tokens ∷ r.moves ∷ r.register_height ∷ r.place_height ∷ f j ∷ g j ∷ h j ∷ []

-- what is handed back is read back as the same record
pub handed_on : (r : Record) → brought_in (numbers_of r) ≡ r
handed_on r = λ j. record { status = status_back r.status j; kind = kind_back r.kind j; tokens = r.tokens; moves = r.moves; register_height = r.register_height; place_height = r.place_height }
  where
    status_back : (s : Status) → status_from (status_number s) ≡ s
    status_back closed = refl
    status_back running = refl
    status_back waiting = refl

    kind_back : (k : Kind) → kind_from (kind_number k) (register_base k) (place_base k) ≡ k
    kind_back outer = refl
    kind_back (inner r p) = refl

abbrev pub flag_of : Bool → ℕ
flag_of true = 1
flag_of false = 0

-- ---- an answer as three numbers

-- 01's number of a refusal, or 0
abbrev pub answer_number : Answer → ℕ
answer_number (more moves) = 0
answer_number (value v moves) = 0
answer_number (refused number tokens) = number
answer_number (table_refused number offset) = number

-- the moves; with a refusal the tokens read, or the field's offset where the table is refused
abbrev pub answer_count : Answer → ℕ
answer_count (more moves) = moves
answer_count (value v moves) = moves
answer_count (refused number tokens) = tokens
answer_count (table_refused number offset) = offset

-- the segment's value, or 0
abbrev pub answer_value : Answer → ℤ
answer_value (more moves) = pos 0
answer_value (value v moves) = v
answer_value (refused number tokens) = pos 0
answer_value (table_refused number offset) = pos 0

-- ---- what a call hands back, by what it answers and leaves

-- ns are the record's numbers, n and k number and count of the answer, vs, ps and ws the registers, places and program words
pub record PassedOn (ns : List ℕ) (n k : ℕ) (vs : List ℤ) (ps ws : List ℕ) (e : Effect) : Type 0 where
  pub state : ns ≡ numbers_of e.state
  pub number : n ≡ answer_number e.answer
  pub count : k ≡ answer_count e.answer
  pub stacks : stacks_of vs ps ≡ e.stacks
  pub area : ws ≡ e.area

pub passed_on : (r : Called) (vs : List ℤ) (ps ws : List ℕ) (e : Effect) → effect_is r vs ps ws ≡ e → (ns : List ℕ) (n k : ℕ)
    → (ns ≡ numbers_of (record_is r.«record»)) × (n ≡ answer_number (answer_is r.answer)) × (k ≡ answer_count (answer_is r.answer)) → PassedOn ns n k vs ps ws e
passed_on r vs ps ws e q ns n k h = record {
  state = h.0 ∙ ap (λ z. numbers_of z.state) q;
  number = h.1 ∙ ap (λ z. answer_number z.answer) q;
  count = h.2 ∙ ap (λ z. answer_count z.answer) q;
  stacks = ap (λ z. z.stacks) q;
  area = ap (λ z. z.area) q;
}
