-- The loop that writes what the places of a production wait at, and the zeros behind.
use Rattle.std.specs.Prelude.{ℕ, suc, ◌+◌, ◌-◌, ◌*◌, ◌≤◌, ◌<◌, ◌≡◌, refl, List, [], ◌∷◌, ◌++◌, length, set, replicate}
use Rattle.std.proofs.Common.{arith, sym, ap, ap₂, ◌∙◌, subst, length-set}
use Rattle.std.proofs.lemmas.List.{length-replicate}
use Rattle.meaning.specs.Limits.{symbols_limit}
use Rattle.meaning.specs.Grammar.{inh, syn, marked_for, symbol_at}
use Rattle.meaning.specs.Layout.{symbol_byte}
use Rattle.meaning.specs.Program.{wait_word, wait_row}
use Rattle.meaning.specs.Table.{byte}
use Rattle.program_block_words.specs.Patch.{patch, Wrote, wrote_one, wrote_then, Onward, onward_start, onward_as, onward_then, onward_end}
use Rattle.outline.specs.Counts.{count_at_value, synthesized_at}
use Rattle.program_body_words.specs.OfProduction.{OfProduction, right_of, Carried, inherited_at, marked_at, synthesized_at_lem}
use Rattle.program_body_words.specs.Waits.{waits_left, waits_turn, waits_end, byte_is}

-- ---- a range of zeros

zeros_more : (to at : ℕ) → at < to → replicate {A = ℕ} (to - at) 0 ≡ (0 ∷ []) ++ replicate (to - (at + 1)) 0
zeros_more to at l = let e : to - at ≡ suc (to - (at + 1)) = omega arith in ap (λ n. replicate n 0) e

zeros_end : (to at : ℕ) → to ≤ at → replicate {A = ℕ} (to - at) 0 ≡ []
zeros_end to at l = let e : to - at ≡ 0 = omega arith in ap (λ n. replicate n 0) e

pub clear_turn : {old area : List ℕ} {from to at : ℕ} → at < to → Onward old from (replicate (to - from) 0) area at (replicate (to - at) 0) → Onward old from (replicate (to - from) 0) (set area at 0) (at + 1) (replicate (to - (at + 1)) 0)
clear_turn {old} {area} {from} {to} {at} l o = onward_then {ws = 0 ∷ []} (onward_as (zeros_more to at l) o) (wrote_one area at 0)

pub clear_end : {old area : List ℕ} {from to at : ℕ} → to ≤ at → Onward old from (replicate (to - from) 0) area at (replicate (to - at) 0) → area ≡ patch old from (replicate (to - from) 0)
clear_end {old} {area} {from} {to} {at} l o = (onward_end (onward_as (zeros_end to at l) o)).memory

-- ---- the words of the symbols

module _ (row fields inherited synthesized : List ℕ) (carrying : ℕ) (old : List ℕ) (at : ℕ) where
  -- k words are written, and the symbols passed have n registers
  pub record RowGo (k n : ℕ) (area : List ℕ) : Type 0 where
    pub size : length area ≡ length old
    pub go : (x : OfProduction row fields inherited synthesized) → Carried carrying x.grammar → Onward old at (waits_left x 0 0) area (at + k) (waits_left x k n)

pub row_start_lem : {row fields inherited synthesized : List ℕ} {carrying : ℕ} {old : List ℕ} {at : ℕ} → RowGo row fields inherited synthesized carrying old at 0 0 old
row_start_lem {old = old} {at = at} = record {
  size = refl;
  go = λ x y. let e : at ≡ at + 0 = omega arith in subst (λ z. Onward old at (waits_left x 0 0) old z (waits_left x 0 0)) e (onward_start old at (waits_left x 0 0));
}

module _ {row fields inherited synthesized : List ℕ} {carrying : ℕ} {old : List ℕ} {at k n : ℕ} {area : List ℕ} (s : RowGo row fields inherited synthesized carrying old at k n area) {size : ℕ} (es : size ≡ byte row 1) where
  pub row_turn : {left b marked own out word : ℕ} → k < size → left ≡ byte row 0 → b ≡ byte row (k + 2)
      → marked ≡ count_at_value synthesized b → own ≡ count_at_value inherited b → out ≡ synthesized_at carrying synthesized b → word ≡ left + 64 * n + 8192 * marked + 131072 * own + 2097152 * b + 536870912
      → RowGo row fields inherited synthesized carrying old at (k + 1) (n + out) (set area (at + k) word)
  row_turn {left} {b} {marked} {own} {out} {word} l el eb em eo ep ew = record { size = length-set area (at + k) word ∙ s.size; go = turn }
    where
      turn : (x : OfProduction row fields inherited synthesized) → Carried carrying x.grammar → Onward old at (waits_left x 0 0) (set area (at + k) word) (at + (k + 1)) (waits_left x (k + 1) (n + out))
      turn x c =
          let g = x.grammar in
          let pr = x.production in
          let y = symbol_at pr (suc k) in
          let m : k < length (right_of x) = omega (arith, es, x.size) in
          let is_marked : marked ≡ marked_for g y = em ∙ (ap (count_at_value synthesized) eb ∙ marked_at x k m) in
          let is_out : out ≡ syn g y = ep ∙ (ap (synthesized_at carrying synthesized) eb ∙ synthesized_at_lem x carrying c k m) in
          let is_own : own ≡ inh g y = eo ∙ (ap (count_at_value inherited) eb ∙ inherited_at x k m) in
          let is_byte : b ≡ symbol_byte y = eb ∙ byte_is x k m in
          let is_left : left ≡ pr.left = el ∙ x.left in
          let is_word : word ≡ wait_word g pr.left n y = omega (arith, ew, is_marked, is_own, is_byte, is_left) in
          let place : at + k + 1 ≡ at + (k + 1) = omega arith in
          let o = onward_then {ws = wait_word g pr.left n y ∷ []} (onward_as (waits_turn x k n m) (s.go x c)) (wrote_one area (at + k) (wait_word g pr.left n y)) in
          subst (λ z. Onward old at (waits_left x 0 0) (set area (at + k) word) (at + (k + 1)) (waits_left x (k + 1) (n + z))) (sym is_out)
          (subst (λ z. Onward old at (waits_left x 0 0) (set area (at + k) z) (at + (k + 1)) (waits_left x (k + 1) (n + syn g y))) (sym is_word)
          (subst (λ z. Onward old at (waits_left x 0 0) (set area (at + k) (wait_word g pr.left n y)) z (waits_left x (k + 1) (n + syn g y))) place o))

  pub row_written : {new : List ℕ} → k ≡ size → new ≡ patch area (at + size) (replicate (at + symbols_limit - (at + size)) 0) → (x : OfProduction row fields inherited synthesized) → Carried carrying x.grammar → Wrote old new at (at + symbols_limit) (wait_row x.grammar x.production)
  row_written {new} e h x c =
      let m : length (right_of x) ≤ k = omega (arith, es, x.size) in
      let short = x.of_grammar.short in
      let words = onward_end (onward_as (waits_end x k n m) (s.go x c)) in
      let rest : at + symbols_limit - (at + size) ≡ symbols_limit - length (right_of x) = omega (arith, es, x.size) in
      let w : Wrote area new (at + k) (at + symbols_limit) (replicate (symbols_limit - length (right_of x)) 0) = record {
        memory = h ∙ ap₂ (λ y z. patch area (at + y) (replicate z 0)) (sym e) rest;
        address = omega (arith, es, x.size, short, length-replicate {A = ℕ} (symbols_limit - length (right_of x)) 0);
      } in
      wrote_then words w
