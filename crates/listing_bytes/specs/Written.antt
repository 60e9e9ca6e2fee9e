-- Text written into a buffer at a position: what the buffer holds then, and the position behind the text.
use Rattle.std.specs.Prelude.{ℕ, suc, ◌+◌, ◌≤◌, ◌<◌, ◌≡◌, refl, List, [], ◌∷◌, ◌++◌, length, get_or, set, take, drop}
use Rattle.std.proofs.Common.{add-one, zero-add, arith, sym, ap, ◌∙◌, subst, length-append, take-suc}
use Rattle.std.proofs.lemmas.List.{take_all}
use Rattle.std.proofs.lemmas.List.Edits.{sets, sets-eq}
use Rattle.std.proofs.lemmas.Slice.{put_mid-paste}
use borrow.Rule.Slice.PartMut.{put_mid}
use Rattle.meaning.specs.PublicCalls.{written}

pub record Wrote (before : List ℕ) (at : ℕ) (text : List ℕ) (after : List ℕ) (end : ℕ) : Type 0 where
  pub memory : after ≡ sets before at text
  pub behind : end ≡ at + length text

sets_append : (m : List ℕ) (at : ℕ) (a b : List ℕ) → sets (sets m at a) (at + length a) b ≡ sets m at (a ++ b)
sets_append m at [] b = ap (λ k. sets m k b) (omega arith)
sets_append m at (x ∷ a) b = ap (λ k. sets (sets (set m at x) (suc at) a) k b) (omega arith) ∙ sets_append (set m at x) (suc at) a b

infixl 20 ◌then◌
-- one text behind the other
pub ◌then◌ : {m n o : List ℕ} {at p q : ℕ} {a b : List ℕ} → Wrote m at a n p → Wrote n p b o q → Wrote m at (a ++ b) o q
◌then◌ {m} {n} {o} {at} {p} {q} {a} {b} s t = record {
  memory = t.memory ∙ (ap (λ l. sets l p b) s.memory ∙ (ap (λ k. sets (sets m at a) k b) s.behind ∙ sets_append m at a b));
  behind = omega (arith, s.behind, t.behind, length-append a b);
}

-- the text under another name
pub wrote_as : {m n : List ℕ} {at p : ℕ} {a b : List ℕ} → a ≡ b → Wrote m at a n p → Wrote m at b n p
wrote_as {m} {n} {at} {p} e w = subst (λ t. Wrote m at t n p) e w

-- from the first byte on: the text, and what was behind it
pub wrote_first : {m n : List ℕ} {p : ℕ} {a : List ℕ} → p ≤ length m → Wrote m 0 a n p → n ≡ written a m
wrote_first {m} {n} {p} {a} l w = w.memory ∙ (sets-eq a m 0 (omega (arith, w.behind)) ∙ ap (λ k. a ++ drop k m) (zero-add (length a)))

-- a turn of a loop that copies
pub wrote_next : {m n : List ℕ} {at : ℕ} (t : List ℕ) (i : ℕ) → i < length t → Wrote m at (take i t) n (at + i) → Wrote m at (take (i + 1) t) (set n (at + i) (get_or t i 0)) (at + (i + 1))
wrote_next {m} {n} {at} t i l w =
    let one : Wrote n (at + i) (get_or t i 0 ∷ []) (set n (at + i) (get_or t i 0)) (at + (i + 1)) = record { memory = refl; behind = omega arith } in
    wrote_as (sym (ap (λ k. take k t) (add-one i) ∙ take-suc t i 0 l)) (w then one)

-- a text copied over a part of the buffer
pub wrote_part : (m : List ℕ) (at k : ℕ) (part text : List ℕ) → part ≡ text → k ≡ length text → at + k ≤ length m → Wrote m at text (put_mid at k m part) (at + length text)
wrote_part m at k part text e l h =
    record {
      memory =
          put_mid-paste at k m part text k e refl l
          ∙ (ap (λ z. take at m ++ z ++ drop (at + k) m) (take_all k text (omega arith))
          ∙ (ap (λ n. take at m ++ text ++ drop (at + n) m) l ∙ sym (sets-eq text m at (omega arith))));
      behind = refl;
    }
