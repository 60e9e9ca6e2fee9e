-- The bits of a range of attributes, looked at one by one: there are few.
use Prim.Native.Nat.{ℕ, ◌-◌, ◌*◌, ◌%◌, ◌^◌, ◌≤◌, ◌<◌}
use mathlib.Core.Path.{◌≡◌, refl, sym, ◌∙◌, ap}
use mathlib.Core.Bool.{Bool, true, false, ◌&&◌, not, true≢false}
use native.Mathlib.Omega.{arith}
use lib.Dec.{eqb, leb, ltb}
use borrow.Author.Tests.{le-leb, lt-ltb, leb-true, ltb-true, eqb-true}
use Rattle.meaning.specs.Limits.{attributes_limit}
use Rattle.meaning.specs.Base.{all, count_from}
use Rattle.table_rules.specs.Rule.{bit}
use Rattle.theory_base.specs.Members.{all_counted}
use Rattle.table_occurrences.specs.OccurrenceBits.{range_word}

abbrev same : Bool → Bool → Bool
same true y = y
same false y = not y

same_is : (x y : Bool) → same x y ≡ true → x ≡ y
same_is true true e = refl
same_is true false e = absurd (true≢false (sym e))
same_is false false e = refl
same_is false true e = absurd (true≢false (sym e))

-- an attribute lies in a range
abbrev pub between : ℕ → ℕ → ℕ → Bool
between low high a = ltb low a && leb a high

pub between_yes : (low high a : ℕ) → low < a → a ≤ high → between low high a ≡ true
between_yes low high a l m = ap (λ x. x && leb a high) (lt-ltb low a l) ∙ le-leb a high m

pub between_low : (low high a : ℕ) → between low high a ≡ true → low < a
between_low low high a e = go (ltb low a) refl
  where
    go : (x : Bool) → ltb low a ≡ x → low < a
    go true q = ltb-true low a q
    go false q = absurd (true≢false (sym e ∙ ap (λ x. x && leb a high) q))

pub between_high : (low high a : ℕ) → between low high a ≡ true → a ≤ high
between_high low high a e = leb-true a high (sym (ap (λ x. x && leb a high) (lt-ltb low a (between_low low high a e))) ∙ e)

-- all ranges of at most 8 attributes, and 16 bits of each
abbrev everywhere : (ℕ → ℕ → ℕ → Bool) → Bool
everywhere f = all (λ low. all (λ high. all (f low high) (count_from 0 16)) (count_from low (9 - low))) (count_from 0 9)

somewhere : (f : ℕ → ℕ → ℕ → Bool) → everywhere f ≡ true → (low high a : ℕ) → low ≤ high → high ≤ attributes_limit → a < 16 → f low high a ≡ true
somewhere f e low high a l m q =
    all_counted (f low high) 0 16 a
    (all_counted (λ high. all (f low high) (count_from 0 16)) low (9 - low) high
    (all_counted (λ low. all (λ high. all (f low high) (count_from 0 16)) (count_from low (9 - low))) 0 9 low e (omega arith) (omega arith))
    l (omega arith))
    (omega arith) (omega arith)

abbrev in_range : ℕ → ℕ → ℕ → Bool
in_range low high a = same (bit (range_word low high) a) (between low high a)

abbrev out_range : ℕ → ℕ → ℕ → Bool
out_range low high a = same (bit (65535 - range_word low high) a) (not (between low high a))

in_everywhere : everywhere in_range ≡ true
unfolding bit range_word
in_everywhere = refl

out_everywhere : everywhere out_range ≡ true
unfolding bit range_word
out_everywhere = refl

module _ (low high a : ℕ) (l : low ≤ high) (m : high ≤ attributes_limit) (q : a < 16) where
  pub range_in : bit (range_word low high) a ≡ between low high a
  range_in = same_is _ _ (somewhere in_range in_everywhere low high a l m q)

  pub range_out : bit (65535 - range_word low high) a ≡ not (between low high a)
  range_out = same_is _ _ (somewhere out_range out_everywhere low high a l m q)

full_everywhere : all (bit 65535) (count_from 0 16) ≡ true
unfolding bit
full_everywhere = refl

pub full : (a : ℕ) → a < 16 → bit 65535 a ≡ true
full a q = all_counted (bit 65535) 0 16 a full_everywhere (omega arith) (omega arith)

-- what the code computes: shifts within 16 bits
abbrev ordered_powers : ℕ → ℕ → ℕ → Bool
ordered_powers low high a = leb (2 * 2 ^ low % 2 ^ 16) (2 * 2 ^ high % 2 ^ 16)

powers_ordered : everywhere ordered_powers ≡ true
powers_ordered = refl

pub power_order : (low high : ℕ) → low ≤ high → high ≤ attributes_limit → 2 * 2 ^ low % 2 ^ 16 ≤ 2 * 2 ^ high % 2 ^ 16
power_order low high l m = leb-true (2 * 2 ^ low % 2 ^ 16) (2 * 2 ^ high % 2 ^ 16) (somewhere ordered_powers powers_ordered low high 0 l m (omega arith))

abbrev code_alike : ℕ → ℕ → ℕ → Bool
code_alike low high a = eqb (2 * 2 ^ high % 2 ^ 16 - 2 * 2 ^ low % 2 ^ 16) (range_word low high)

codes_alike : everywhere code_alike ≡ true
unfolding range_word
codes_alike = refl

pub range_code : (low high : ℕ) → low ≤ high → high ≤ attributes_limit → 2 * 2 ^ high % 2 ^ 16 - 2 * 2 ^ low % 2 ^ 16 ≡ range_word low high
range_code low high l m = eqb-true (2 * 2 ^ high % 2 ^ 16 - 2 * 2 ^ low % 2 ^ 16) (range_word low high) (somewhere code_alike codes_alike low high 0 l m (omega arith))

abbrev small_word : ℕ → ℕ → ℕ → Bool
small_word low high a = leb (range_word low high) 511

words_small : everywhere small_word ≡ true
unfolding range_word
words_small = refl

pub range_small : (low high : ℕ) → low ≤ high → high ≤ attributes_limit → range_word low high ≤ 511
range_small low high l m = leb-true (range_word low high) 511 (somewhere small_word words_small low high 0 l m (omega arith))
