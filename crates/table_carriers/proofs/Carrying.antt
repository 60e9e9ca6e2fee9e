-- The tag 6 fields, one after the other, and the set of the terminals that they name.
use Prim.Native.Nat.{ℕ, ◌+◌, ◌≤◌, ◌<◌}
use mathlib.Core.Path.{◌≡◌, refl, sym, ◌∙◌, ap, ap₂, subst}
use mathlib.Core.Bool.{Bool, true, false, ◌||◌}
use mathlib.Core.List.{List, [], ◌∷◌, ◌++◌, reverse, reverse-cons}
use native.Mathlib.Omega.{arith}
use lib.Bits.{bit_or}
use lib.Dec.{eqb}
use lib.ListN.{length}
use Rattle.meaning.specs.Limits.{terminals_limit}
use Rattle.meaning.specs.Base.{any}
use Rattle.meaning.specs.Grammar.{Counts}
use Rattle.meaning.specs.Sets.{has, singleton}
use Rattle.meaning.specs.Table.{byte, Header, malformed, read_field, kind_of, judge_field}
use Rattle.theory_sets.specs.TokenSets.{has_union, has_empty, single_is}
use Rattle.token_set.specs.declared.TokenSet.{TokenSet}
use Rattle.token_set.specs.SetBits.{set_of, set_empty, set_or}
use Rattle.table_fields.specs.Field.{Whole, Short, rest, body_at}
use Rattle.table_fields.specs.Judge.{least_after, carrier_fault}
use Rattle.table_fields.specs.Reads.{state_of}
use Rattle.table_fields.proofs.Cases.{nonzero}
use Rattle.table_fields.proofs.Fine.{carrier_fine}
use Rattle.table_fields.proofs.Judged.{carrier_judged}
use Rattle.table_fields.proofs.Rest.{judged_fine, judged_refused, step_short, step_field, calm_complete, body_length, body_byte, field_of}
use Rattle.outline.specs.Outline.{Carries}
use Rattle.theory_base.specs.Members.{eqb_both}
use Rattle.refusals.specs.Numbers.{fault_number}
use Rattle.table_counts.proofs.Faulty.{faulty}
use Rattle.table_carriers.specs.declared.RefusedCarrier.{RefusedCarrier}
use Rattle.table_carriers.specs.Named.{CarrierJudged, NoCarrier, CarriersDone, CarrierRefused}

-- ---- one field

module _ (t : List ℕ) (at terminals least : ℕ) (inside : at < length t) (tag : byte t at ≡ 6) where
  pub carrier_cut : Short t at → CarrierJudged t at terminals least 2
  carrier_cut s =
      record {
        read = λ h cs os ws tm all low. step_short t (state_of h cs os ws [] 0 0) at inside (calm_complete (state_of h cs os ws [] 0 0) (byte t at) refl) _ s;
        long = λ z. absurd (nonzero 1 z);
        known = λ z. absurd (nonzero 1 z);
      }

  module _ (size : ℕ) (w : Whole t at size) where
    abbrev b : List ℕ
    b = body_at t at size

    module _ (fine : carrier_fault terminals least b ≡ 0) where
      size_is : size ≡ 1
      size_is = sym (body_length t at size w.inside) ∙ (carrier_fine b terminals least fine).0

      first : byte b 0 ≡ byte t (at + 3)
      first = body_byte t at size 0 (omega (arith, size_is)) ∙ ap (byte t) {x = at + 3 + 0} {y = at + 3} (omega arith)

      after_same :
          (h : Header) (cs : List Counts) (os ws : List ℕ)
          → rest t (read_field (state_of h cs os ws [] 0 0) at (kind_of (byte t at)) b) (at + 3 + size) ≡ rest t (state_of h cs os (byte t (at + 3) ∷ ws) [] 0 0) (at + 4)
      after_same h cs os ws =
          let n : at + 3 + size ≡ at + 4 = omega (arith, size_is) in
          ap₂ (λ (x i : ℕ). rest t (read_field (state_of h cs os ws [] 0 0) at (kind_of x) b) i) tag n
          ∙ ap (λ (x : ℕ). rest t (state_of h cs os (x ∷ ws) [] 0 0) (at + 4)) first

    fault_same : (x y : ℕ) → x ≡ terminals → y ≡ least → carrier_fault x y b ≡ carrier_fault terminals least b
    fault_same x y p q = cc

    pub carrier_right : (part : List ℕ) (number : ℕ) → part ≡ b → number ≡ carrier_fault terminals least part → CarrierJudged t at terminals least number
    carrier_right part number is e =
        let q : number ≡ carrier_fault terminals least b = e ∙ ap (carrier_fault terminals least) is in
        record {
          read = λ h cs os ws tm all low.
              step_field t (state_of h cs os ws [] 0 0) at inside (calm_complete (state_of h cs os ws [] 0 0) (byte t at) refl) _ size w number
              (ap (λ (x : ℕ). judge_field (state_of h cs os ws [] 0 0) (field_of at x b)) tag
              ∙ carrier_judged h cs os ws at b all ∙ fault_same h.terminals (least_after ws) tm low ∙ sym q)
              (λ z. after_same (sym q ∙ z) h cs os ws);
          long = λ z. omega (arith, w.inside, size_is (sym q ∙ z));
          known = λ z. omega (arith, (carrier_fine b terminals least (sym q ∙ z)).1, first (sym q ∙ z));
        }

-- ---- the set

any_append : (f : ℕ → Bool) (xs : List ℕ) (y : ℕ) → any f (xs ++ (y ∷ [])) ≡ any f xs || f y
any_append f [] y = last (f y)
  where
    last : (b : Bool) → b || false ≡ b
    last true = refl
    last false = refl
any_append f (x ∷ xs) y = by (f x) (any_append f xs y)
  where
    by : (b : Bool) → any f (xs ++ (y ∷ [])) ≡ any f xs || f y → b || any f (xs ++ (y ∷ [])) ≡ (b || any f xs) || f y
    by true e = refl
    by false e = e

pub carries_none : Carries 0 []
carries_none = record { each = λ t. ap (λ s. has s t) set_empty ∙ has_empty t }

pub carries_more : (word one w : ℕ) (ws : List ℕ) → Carries word (reverse ws) → set_of one ≡ singleton w → w < 64 → Carries (bit_or word one) (reverse (w ∷ ws))
carries_more word one w ws held e l =
    record {
      each = λ t.
          ap (λ s. has s t) (set_or word one) ∙ has_union (set_of word) (set_of one) t
          ∙ ap₂ ◌||◌ (held.each t) (ap (λ s. has s t) e ∙ (single_is w t l ∙ eqb_both w t t w sym sym))
          ∙ sym (any_append (eqb t) (reverse ws) w) ∙ ap (any (eqb t)) (sym (reverse-cons w ws));
    }

-- ---- all of them

pub record Carrying (t : List ℕ) (from terminals at least word : ℕ) : Type 0 where
  pub list : List ℕ
  pub read :
      (h : Header) (cs : List Counts) (os : List ℕ) → h.terminals ≡ terminals → h.nonterminals ≤ length cs
      → rest t (state_of h cs os [] [] 0 0) from ≡ rest t (state_of h cs os list [] 0 0) at
  pub held : Carries word (reverse list)
  pub low : least_after list ≡ least
  pub inside : at ≤ length t

module _ (t : List ℕ) (from terminals : ℕ) where
  pub carrying_start : from ≤ length t → Carrying t from terminals from 0 0
  carrying_start l = record { list = []; read = λ h cs os tm all. refl; held = carries_none; low = refl; inside = l }

  module _ (at least : ℕ) (set : TokenSet) (w : Carrying t from terminals at least set.0) where
    module _ (number : ℕ) (j : CarrierJudged t at terminals least number) where
      pub carrying_refused : (r : RefusedCarrier) → fault_number r.fault ≡ number → r.at ≡ at → r.carrying.0 ≡ set.0 → CarrierRefused t from terminals r
      carrying_refused r p q s =
          let n : (number ≡ 0 → ⊥) = λ z. faulty r.fault (p ∙ z) in
          record {
            list = w.list;
            reached = λ h cs os tm all. w.read h cs os tm all ∙ ap (rest t (state_of h cs os w.list [] 0 0)) (sym q);
            read = λ h cs os tm all. w.read h cs os tm all ∙ j.read h cs os w.list tm all w.low ∙ judged_refused number at _ n ∙ ap₂ malformed (sym p) (sym q);
            held = subst (λ (x : ℕ). Carries x (reverse w.list)) (sym s) w.held;
            inside = omega (arith, w.inside);
          }

      pub carrying_more :
          number ≡ 0 → terminals ≤ terminals_limit → (one next : ℕ) → set_of one ≡ singleton (byte t (at + 3)) → next ≡ byte t (at + 3) + 1
          → Carrying t from terminals (at + 4) next (bit_or set.0 one)
      carrying_more z few one next e n =
          record {
            list = byte t (at + 3) ∷ w.list;
            read = λ h cs os tm all. w.read h cs os tm all ∙ j.read h cs os w.list tm all w.low ∙ judged_fine number at _ z;
            held = carries_more set.0 one (byte t (at + 3)) w.list w.held e (omega (arith, j.known z));
            low = omega arith;
            inside = j.long z;
          }

    pub carrying_end : NoCarrier t at → CarriersDone t from terminals (record { at = at; carrying = set })
    carrying_end o =
        record {
          list = w.list;
          read = w.read;
          held = w.held;
          inside = w.inside;
          other = o;
        }
