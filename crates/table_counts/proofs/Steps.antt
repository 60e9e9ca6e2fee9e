-- One field of tag 1 or 2, in each way it can go.
use Prim.Native.Nat.{ℕ, ◌+◌, ◌-◌, ◌≤◌, ◌<◌}
use mathlib.Core.Path.{◌≡◌, refl, sym, ◌∙◌, ap, ap₂}
use mathlib.Core.Bool.{true, false, ◌&&◌, not}
use mathlib.Core.List.{List, [], ◌∷◌}
use native.Mathlib.Omega.{arith}
use lib.Dec.{eqb}
use lib.ListN.{length, take, drop}
use Rattle.meaning.specs.Limits.{attributes_limit, nonterminals_limit, terminals_limit}
use Rattle.meaning.specs.Grammar.{Counts}
use Rattle.meaning.specs.Table.{byte, Header, State, Stage, at_header, at_counts, at_first, at_any, Read, well_formed, malformed, nothing_read, judge_field, read_field, kind_of, header, last_complete, current}
use Rattle.table_fields.specs.Field.{Whole, Short, rest, judged, body_at}
use Rattle.table_fields.specs.Judge.{header_fault, counts_fault}
use Rattle.table_fields.specs.Reads.{state_of}
use Rattle.table_fields.proofs.Rest.{rest_end, judged_refused, step_short, step_field, calm_complete, body_length, body_byte, field_of}
use Rattle.table_fields.proofs.Judged.{header_judged, header_not, counts_judged, counts_not, stage_counts}
use Rattle.table_fields.proofs.Fine.{header_fine, counts_fine}
use Rattle.table_counts.specs.Counted.{headed, HeaderJudged, CountsJudged}
use Rattle.table_fields.proofs.Cases.{nonzero}

-- the part of a table that a body is
pub part_body : (t : List ℕ) (at size : ℕ) → take (at + 3 + size - (at + 3)) (drop (at + 3) t) ≡ body_at t at size
part_body t at size = ap (λ (n : ℕ). take n (drop (at + 3) t)) {x = at + 3 + size - (at + 3)} {y = size} (omega arith)

-- what the end of the table says, by the stage
abbrev pub end_by : State → ℕ → Stage → Read
end_by s o x = elim x [
  | at_header ↦ malformed 3 o
  | at_counts ↦ malformed 3 o
  | at_first ↦ malformed 3 o
  | at_any ↦ elim (last_complete s) [ true ↦ well_formed s | false ↦ malformed 8 (current s).offset ]
]

abbrev header_of4 : ℕ → ℕ → ℕ → ℕ → State
header_of4 x y z w = state_of (record { terminals = x; nonterminals = y; start = z; result = w }) [] [] [] [] 0 0

four_same : {x x' y y' z z' w w' : ℕ} → x ≡ x' → y ≡ y' → z ≡ z' → w ≡ w' → header_of4 x y z w ≡ header_of4 x' y' z' w'
four_same p q r t = cc

module _ (t : List ℕ) where
  pub header_end : length t ≡ 0 → (after : Read) → rest t nothing_read 0 ≡ judged 3 0 after
  header_end e after = rest_end t nothing_read 0 (omega arith) ∙ sym (judged_refused 3 0 after (nonzero 2))

  module _ (inside : 0 < length t) where
    pub header_short : Short t 0 → (after : Read) → rest t nothing_read 0 ≡ judged 2 0 after
    header_short h after = step_short t nothing_read 0 inside (calm_complete nothing_read (byte t 0) refl) after h

    pub header_tag_lem : (size : ℕ) → Whole t 0 size → (byte t 0 ≡ 1 → ⊥) → (after : Read) → rest t nothing_read 0 ≡ judged 3 0 after
    header_tag_lem size w n after =
        step_field t nothing_read 0 inside (calm_complete nothing_read (byte t 0) refl) after size w 3 (header_not 0 (byte t 0) (body_at t 0 size) n) (λ e. absurd (nonzero 2 e))

    module _ (size : ℕ) (w : Whole t 0 size) where
      abbrev b : List ℕ
      b = body_at t 0 size

      header_state : size ≡ 4 → read_field nothing_read 0 header b ≡ headed t
      header_state e =
          four_same (body_byte t 0 size 0 (omega arith)) (body_byte t 0 size 1 (omega arith)) (body_byte t 0 size 2 (omega arith)) (body_byte t 0 size 3 (omega arith))

      header_after : size ≡ 4 → byte t 0 ≡ 1 → rest t (read_field nothing_read 0 (kind_of (byte t 0)) b) (0 + 3 + size) ≡ rest t (headed t) 7
      header_after e tag =
          let n : 0 + 3 + size ≡ 7 = omega arith in
          ap₂ (λ (x i : ℕ). rest t (read_field nothing_read 0 (kind_of x) b) i) tag n ∙ ap (λ s. rest t s 7) (header_state e)

      pub header_size : header_fault b ≡ 0 → size ≡ 4
      header_size e = sym (body_length t 0 size w.inside) ∙ (header_fine b e).0

      pub header_whole : byte t 0 ≡ 1 → (number : ℕ) → number ≡ header_fault b → rest t nothing_read 0 ≡ judged number 0 (rest t (headed t) 7)
      header_whole tag number e =
          step_field t nothing_read 0 inside (calm_complete nothing_read (byte t 0) refl) _ size w number
          (ap (λ (x : ℕ). judge_field nothing_read (field_of 0 x b)) tag ∙ header_judged 0 b ∙ sym e)
          (λ z. header_after (header_size (sym e ∙ z)) tag)

      pub header_known : header_fault b ≡ 0 → (7 ≤ length t) × (byte t 4 ≤ nonterminals_limit) × (byte t 3 ≤ terminals_limit)
      header_known e =
          let k = header_size e in (
            omega (arith, w.inside),
            omega (arith, (header_fine b e).1, body_byte t 0 size 1 (omega arith)),
            omega (arith, (header_fine b e).2, body_byte t 0 size 0 (omega arith)),
          )

-- ---- counts

module _ (t : List ℕ) (h : Header) (cs : List Counts) (os : List ℕ) (at : ℕ) (few : length cs < h.nonterminals) where
  abbrev s : State
  s = state_of h cs os [] [] 0 0

  calm : (eqb (byte t at) 3 && not (last_complete s)) ≡ false
  calm = calm_complete s (byte t at) refl

  pub counts_end : length t ≤ at → (after : Read) → rest t s at ≡ judged 3 at after
  counts_end e after =
      rest_end t s at e ∙ ap (end_by s at) (stage_counts h cs os [] [] 0 0 few) ∙ sym (judged_refused 3 at after (nonzero 2))

  module _ (inside : at < length t) where
    pub counts_short : Short t at → (after : Read) → rest t s at ≡ judged 2 at after
    counts_short q after = step_short t s at inside calm after q

    pub counts_tag_lem : (size : ℕ) → Whole t at size → (byte t at ≡ 2 → ⊥) → (after : Read) → rest t s at ≡ judged 3 at after
    counts_tag_lem size w n after =
        step_field t s at inside calm after size w 3 (counts_not h cs os at (body_at t at size) (byte t at) few n) (λ e. absurd (nonzero 2 e))

    module _ (size : ℕ) (w : Whole t at size) where
      abbrev b' : List ℕ
      b' = body_at t at size

      abbrev next : State
      next = state_of h (record { inherited = byte t (at + 3); synthesized = byte t (at + 4) } ∷ cs) (at ∷ os) [] [] 0 0

      counts_after : size ≡ 2 → byte t at ≡ 2 → rest t (read_field s at (kind_of (byte t at)) b') (at + 3 + size) ≡ rest t next (at + 5)
      counts_after e tag =
          let n : at + 3 + size ≡ at + 5 = omega arith in
          let i : at + 3 + 0 ≡ at + 3 = omega arith in
          let j : at + 3 + 1 ≡ at + 4 = omega arith in
          ap₂ (λ (x k : ℕ). rest t (read_field s at (kind_of x) b') k) tag n
          ∙ ap₂
          (λ (x y : ℕ). rest t (state_of h (record { inherited = x; synthesized = y } ∷ cs) (at ∷ os) [] [] 0 0) (at + 5))
          (body_byte t at size 0 (omega arith) ∙ ap (byte t) i)
          (body_byte t at size 1 (omega arith) ∙ ap (byte t) j)

      pub counts_size : counts_fault (length cs) h.start h.result b' ≡ 0 → size ≡ 2
      counts_size e = sym (body_length t at size w.inside) ∙ (counts_fine b' (length cs) h.start h.result e).0

      pub counts_whole :
          byte t at ≡ 2 → (number : ℕ) → number ≡ counts_fault (length cs) h.start h.result b'
          → rest t s at ≡ judged number at (rest t next (at + 5))
      counts_whole tag number e =
          step_field t s at inside calm _ size w number
          (ap (λ (x : ℕ). judge_field s (field_of at x b')) tag ∙ counts_judged h cs os at b' few ∙ sym e)
          (λ z. counts_after (counts_size (sym e ∙ z)) tag)

-- ---- the same for the code's numbers; `part` is the body as the code cuts it out

module _ (t : List ℕ) where
  pub header_over : length t ≡ 0 → HeaderJudged t 3
  header_over e = record { read = header_end t e _; long = λ z. absurd (nonzero 2 z); few = λ z. absurd (nonzero 2 z); tokens = λ z. absurd (nonzero 2 z) }

  module _ (inside : 0 < length t) where
    pub header_cut : Short t 0 → HeaderJudged t 2
    header_cut h = record { read = header_short t inside h _; long = λ z. absurd (nonzero 1 z); few = λ z. absurd (nonzero 1 z); tokens = λ z. absurd (nonzero 1 z) }

    pub header_other : (size : ℕ) → Whole t 0 size → (byte t 0 ≡ 1 → ⊥) → HeaderJudged t 3
    header_other size w n = record { read = header_tag_lem t inside size w n _; long = λ z. absurd (nonzero 2 z); few = λ z. absurd (nonzero 2 z); tokens = λ z. absurd (nonzero 2 z) }

    pub header_right : (size : ℕ) (part : List ℕ) (number : ℕ) → Whole t 0 size → byte t 0 ≡ 1 → part ≡ body_at t 0 size → number ≡ header_fault part → HeaderJudged t number
    header_right size part number w tag p e =
        let q : number ≡ header_fault (body_at t 0 size) = e ∙ ap header_fault p in
        record {
          read = header_whole t inside size w tag number q;
          long = λ z. (header_known t inside size w (sym q ∙ z)).0;
          few = λ z. (header_known t inside size w (sym q ∙ z)).1;
          tokens = λ z. (header_known t inside size w (sym q ∙ z)).2;
        }

module _ (t : List ℕ) (at n start result : ℕ) where
  pub counts_over : length t ≤ at → CountsJudged t at n start result 3
  counts_over e =
      record {
        read = λ h cs os p q u v. counts_end t h cs os at (omega arith) e _;
        long = λ z. absurd (nonzero 2 z);
        small = λ z. absurd (nonzero 2 z);
      }

  module _ (inside : at < length t) where
    pub counts_cut : Short t at → CountsJudged t at n start result 2
    counts_cut e =
        record {
          read = λ h cs os p q u v. counts_short t h cs os at (omega arith) inside e _;
          long = λ z. absurd (nonzero 1 z);
          small = λ z. absurd (nonzero 1 z);
        }

    module _ (size : ℕ) (w : Whole t at size) where
      pub counts_other : (byte t at ≡ 2 → ⊥) → CountsJudged t at n start result 3
      counts_other e =
          record {
            read = λ h cs os p q u v. counts_tag_lem t h cs os at (omega arith) inside size w e _;
            long = λ z. absurd (nonzero 2 z);
            small = λ z. absurd (nonzero 2 z);
          }

      abbrev body : List ℕ
      body = body_at t at size

      known : counts_fault n start result body ≡ 0 → (at + 5 ≤ length t) × (byte t (at + 3) + byte t (at + 4) ≤ attributes_limit)
      known e =
          let q = counts_fine body n start result e in
          let k : size ≡ 2 = sym (body_length t at size w.inside) ∙ q.0 in
          let i : at + 3 + 0 ≡ at + 3 = omega arith in
          let j : at + 3 + 1 ≡ at + 4 = omega arith in
          (omega (arith, w.inside), omega (arith, q.1, body_byte t at size 0 (omega arith) ∙ ap (byte t) i, body_byte t at size 1 (omega arith) ∙ ap (byte t) j))

      fault_same : {x y z : ℕ} → x ≡ n → y ≡ start → z ≡ result → counts_fault n start result body ≡ counts_fault x y z body
      fault_same p q r = cc

      pub counts_right : (part : List ℕ) (number : ℕ) → byte t at ≡ 2 → part ≡ body → number ≡ counts_fault n start result part → CountsJudged t at n start result number
      counts_right part number tag p e =
          let q : number ≡ counts_fault n start result body = e ∙ ap (counts_fault n start result) p in
          record {
            read = λ h cs os x y u v. counts_whole t h cs os at (omega arith) inside size w tag number (q ∙ fault_same x u v);
            long = λ z. (known (sym q ∙ z)).0;
            small = λ z. (known (sym q ∙ z)).1;
          }
