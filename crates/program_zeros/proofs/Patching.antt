-- Words written over a part of an area.
use Rattle.std.proofs.Common.{arith, refl, sym, ap, ◌∙◌, ◌+◌, ◌≤◌, ◌≡◌, ◌++◌, ℕ, List, length, take, drop}
use Rattle.std.proofs.lemmas.List.{take_all}
use Rattle.std.proofs.lemmas.List.Edits.{sets-eq}
use Rattle.std.proofs.lemmas.Slice.{put_mid-paste}
use borrow.Rule.Slice.PartMut.{put_mid}
use Rattle.program_block_words.specs.Patch.{patch}

-- they are a patch
pub patched : (area : List ℕ) (a k : ℕ) (ys ws : List ℕ) → ys ≡ ws → k ≡ length ws → a + k ≤ length area → put_mid a k area ys ≡ patch area a ws
unfolding patch
patched area a k ys ws e l h =
    put_mid-paste a k area ys ws k e refl l
    ∙ (ap (λ z. take a area ++ z ++ drop (a + k) area) (take_all k ws (omega arith))
    ∙ (ap (λ n. take a area ++ ws ++ drop (a + n) area) l ∙ sym (sets-eq ws area a (omega arith))))
