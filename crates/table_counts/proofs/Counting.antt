-- The tag 2 fields, one after the other.
use Prim.Native.Nat.{ℕ, zero, suc, ◌+◌, ◌*◌, ◌≤◌, ◌<◌}
use mathlib.Core.Path.{◌≡◌, refl, sym, ◌∙◌, ap, ap₂}
use mathlib.Core.List.{List, [], ◌∷◌}
use mathlib.Core.Logic.{⊎_elim}
use native.Mathlib.Omega.{arith}
use native.Mathlib.Nat.{not-suc-le-zero}
use lib.ListN.{length, get_or, set, length-set}
use lib.Seq.{get_or-set_same, get_or-set_other}
use Rattle.meaning.specs.Limits.{attributes_limit, nonterminals_limit}
use Rattle.meaning.specs.Grammar.{Counts}
use Rattle.meaning.specs.Table.{byte, Read, malformed}
use Rattle.std.specs.Prelude.{Result, Ok}
use Rattle.refusals.specs.declared.TableRefusal.{TableRefusal}
use Rattle.table_counts.specs.Refused.{number_in, offset_in}
use Rattle.table_fields.specs.Field.{rest, judged}
use Rattle.table_fields.specs.Reads.{state_of}
use Rattle.table_fields.proofs.Rest.{judged_fine, judged_refused}
use Rattle.table_counts.specs.Counted.{header_in, headed, counts_up_to, offsets_up_to, counted, SmallCounts, CountsJudged, CountsRead}
use Rattle.table_fields.proofs.Cases.{lt_or_le}

pub length_counts : (inh syn : List ℕ) (n : ℕ) → length (counts_up_to inh syn n) ≡ n
length_counts inh syn zero = refl
length_counts inh syn (suc n) = ap suc (length_counts inh syn n)

counts_set : (inh syn : List ℕ) (n x y m : ℕ) → m ≤ n → counts_up_to (set inh n x) (set syn n y) m ≡ counts_up_to inh syn m
counts_set inh syn n x y zero l = refl
counts_set inh syn n x y (suc m) l =
    let p : get_or (set inh n x) m 0 ≡ get_or inh m 0 = get_or-set_other inh n m x 0 (λ e. omega arith) in
    let q : get_or (set syn n y) m 0 ≡ get_or syn m 0 = get_or-set_other syn n m y 0 (λ e. omega arith) in
    let r : counts_up_to (set inh n x) (set syn n y) m ≡ counts_up_to inh syn m = counts_set inh syn n x y m (omega arith) in
    cc

-- n tag 2 fields are read
pub record Counting (t : List ℕ) (n : ℕ) (inh syn : List ℕ) : Type 0 where
  pub read : rest t (headed t) 7 ≡ rest t (counted t inh syn n) (7 + 5 * n)
  pub long : 7 + 5 * n ≤ length t
  pub small : SmallCounts inh syn n
  pub first : length inh ≡ nonterminals_limit
  pub second : length syn ≡ nonterminals_limit

pub counting_start : (t inh syn : List ℕ) → 7 ≤ length t → length inh ≡ nonterminals_limit → length syn ≡ nonterminals_limit → Counting t 0 inh syn
counting_start t inh syn l p q = record { read = refl; long = l; small = λ m h. absurd (not-suc-le-zero h); first = p; second = q }

module _ (t : List ℕ) (n : ℕ) (inh syn : List ℕ) (c : Counting t n inh syn) where
  module _ (few : n < byte t 4) (start result number : ℕ) (starts : start ≡ byte t 5) (results : result ≡ byte t 6) (j : CountsJudged t (7 + 5 * n) n start result number) where
    abbrev at : ℕ
    at = 7 + 5 * n

    abbrev after : Read
    after =
        rest t
        (state_of (header_in t) (record { inherited = byte t (at + 3); synthesized = byte t (at + 4) } ∷ counts_up_to inh syn n) (at ∷ offsets_up_to n) [] [] 0 0)
        (at + 5)

    step : rest t (headed t) 7 ≡ judged number at after
    step = c.read ∙ j.read (header_in t) (counts_up_to inh syn n) (offsets_up_to n) (length_counts inh syn n) few (sym starts) (sym results)

    pub counting_refused : {A : Type 0} (k : ℕ) (r : Result A TableRefusal) → number_in r ≡ number → offset_in r ≡ at → (number ≡ 0 → ⊥) → CountsRead t k inh syn r
    counting_refused k r p q h =
        let e : (number_in r ≡ 0 → ⊥) = λ z. h (sym p ∙ z) in
        record {
          read = step ∙ judged_refused number at after h ∙ ap₂ malformed (sym p) (sym q) ∙ sym (judged_refused (number_in r) (offset_in r) _ e);
          long = λ z. absurd (e z);
          small = λ z. absurd (e z);
          inside = omega (arith, c.long);
        }

    module _ (fine : number ≡ 0) (room : n < nonterminals_limit) where
      abbrev inh' : List ℕ
      inh' = set inh n (byte t (at + 3))

      abbrev syn' : List ℕ
      syn' = set syn n (byte t (at + 4))

      here : get_or inh' n 0 ≡ byte t (at + 3)
      here = get_or-set_same inh n (byte t (at + 3)) 0 (omega (arith, c.first))

      here' : get_or syn' n 0 ≡ byte t (at + 4)
      here' = get_or-set_same syn n (byte t (at + 4)) 0 (omega (arith, c.second))

      counts_more : (record { inherited = byte t (at + 3); synthesized = byte t (at + 4) } ∷ counts_up_to inh syn n) ≡ counts_up_to inh' syn' (n + 1)
      counts_more =
          let e : suc n ≡ n + 1 = omega arith in
          let p = counts_set inh syn n (byte t (at + 3)) (byte t (at + 4)) n (omega arith) in
          ap₂ (λ (x y : ℕ). record { inherited = x; synthesized = y } ∷ counts_up_to inh syn n) (sym here) (sym here')
          ∙ ap (λ (l : List Counts). record { inherited = get_or inh' n 0; synthesized = get_or syn' n 0 } ∷ l) (sym p)
          ∙ ap (counts_up_to inh' syn') e

      offsets_more : (at ∷ offsets_up_to n) ≡ offsets_up_to (n + 1)
      offsets_more = let e : suc n ≡ n + 1 = omega arith in ap offsets_up_to e

      small_more : SmallCounts inh' syn' (n + 1)
      small_more m l = ⊎_elim below top (lt_or_le m n)
        where
          below : m < n → get_or inh' m 0 + get_or syn' m 0 ≤ attributes_limit
          below h =
              omega (arith, c.small m h, get_or-set_other inh n m (byte t (at + 3)) 0 (λ e. omega arith), get_or-set_other syn n m (byte t (at + 4)) 0 (λ e. omega arith))

          top : n ≤ m → get_or inh' m 0 + get_or syn' m 0 ≤ attributes_limit
          top h =
              let e : m ≡ n = omega arith in
              omega (arith, j.small fine, here, here', ap (λ (i : ℕ). get_or inh' i 0) e, ap (λ (i : ℕ). get_or syn' i 0) e)

      pub counting_more : Counting t (n + 1) inh' syn'
      counting_more =
          let e : at + 5 ≡ 7 + 5 * (n + 1) = omega arith in
          record {
            read = step ∙ judged_fine number at after fine
                ∙ ap₂ (λ cs os. rest t (state_of (header_in t) cs os [] [] 0 0) (at + 5)) counts_more offsets_more
                ∙ ap (λ i. rest t (counted t inh' syn' (n + 1)) i) e;
            long = omega (arith, j.long fine);
            small = small_more;
            first = length-set inh n (byte t (at + 3)) ∙ c.first;
            second = length-set syn n (byte t (at + 4)) ∙ c.second;
          }

  pub counting_end : {A : Type 0} (k : ℕ) (a : A) → n ≡ k → CountsRead t k inh syn (Ok a)
  counting_end k a e =
      record {
        read = c.read ∙ ap (λ i. rest t (counted t inh syn i) (7 + 5 * i)) e ∙ sym (judged_fine 0 0 _ refl);
        long = λ z. omega (arith, c.long);
        small = λ z m h. c.small m (omega arith);
        inside = omega arith;
      }
