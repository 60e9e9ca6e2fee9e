-- The whole of what is written.
use Prim.Native.Nat.{ℕ, ◌+◌, ◌≤◌, ◌<◌}
use native.Mathlib.Omega.{arith}
use mathlib.Core.Path.{◌≡◌, refl, sym, ap, ap₂, ◌∙◌}
use mathlib.Core.List.{List, [], ◌++◌}
use lib.ListN.{length, take, drop, length-append}
use lib.Seq.{paste, length-take-le, take_at, drop-append-add, drop-drop}
use Rattle.meaning.specs.PublicCalls.{written}
use Rattle.meaning_house.specs.House.{writing}
use Rattle.theory_order.specs.Planning.{copied}
use Rattle.theory_order.specs.Proved.{writing_long, writing_short}
use Rattle.house_copy.proofs.Writing.{written_more}
use Rattle.house_write.specs.Answers.{house_is}
use Rattle.std.specs.Prelude.{Ok, Err}
use Rattle.refusals.specs.declared.Refusal.TheVariants.{BufferShort}
use Rattle.refusals.specs.declared.CallRefusal.TheVariants.{OfCall}

module _ (t order : List ℕ) (first : ℕ) (h : first ≤ length t) where
  whole_long : length (take first t ++ copied t order) ≡ first + length (copied t order)
  whole_long = length-append (take first t) (copied t order) ∙ omega (arith, length-take-le first t h)

  pub whole_short : (out : List ℕ) (size : ℕ) → size ≡ length (copied t order) → length out < first + size → house_is (Err (OfCall BufferShort)) out ≡ writing (take first t ++ copied t order) out
  whole_short out size e l = sym (writing_short (take first t ++ copied t order) out (omega (arith, whole_long)))

  pub whole_written : (out one two : List ℕ) (size : ℕ) → size ≡ length (copied t order) → first + size ≤ length out
      → one ≡ paste out 0 (take first t) (length (take first t)) → two ≡ written (take first one ++ copied t order) one → house_is (Ok (first + size)) two ≡ writing (take first t ++ copied t order) out
  whole_written out one two size e l p q =
      let w : List ℕ = take first t in
      let c : List ℕ = copied t order in
      let n : length w ≡ first = length-take-le first t h in
      let x : one ≡ written w out = p ∙ (written_more [] out w 0 refl) in
      let y : take first one ≡ w = ap (take first) x ∙ take_at w (drop (length w) out) first n in
      let z : drop (length (w ++ c)) one ≡ drop (length (w ++ c)) out =
      ap₂ drop (length-append w c) x ∙ (drop-append-add w (drop (length w) out) (length c) ∙ (drop-drop (length c) (length w) out ∙ ap (λ k. drop k out) (sym (length-append w c)))) in
      let b : two ≡ written (w ++ c) out = q ∙ (ap (λ u. written (u ++ c) one) y ∙ ap (λ u. (w ++ c) ++ u) z) in
      let m : first + size ≡ length (w ++ c) = omega (arith, whole_long) in
      ap₂ (λ u v. house_is (Ok u) v) m b ∙ sym (writing_long (w ++ c) out (omega arith))
